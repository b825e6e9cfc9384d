-- How far a text goes with the texts of a language.
use Rattle.std.specs.Prelude.{ℕ, ◌≤◌, List, ◌++◌, length, take}

-- some text of the language begins with this front
abbrev pub Begins : (List ℕ → Type 0) → List ℕ → Type 0
Begins IsText front = (more : List ℕ) × IsText (front ++ more)

-- The longest prefix of the text with which some text of the language begins has n octets.
pub record IsLongestFront (IsText : List ℕ → Type 0) (text : List ℕ) (n : ℕ) : Type 0 where
  pub within : n ≤ length text
  pub begins : Begins IsText (take n text)
  pub longest : (m : ℕ) → m ≤ length text → Begins IsText (take m text) → m ≤ n

-- The text isn't of the language, and goes with it so far.
pub record IsRefusedAt (IsText : List ℕ → Type 0) (text : List ℕ) (n : ℕ) : Type 0 where
  pub no_text : ¬ (IsText text)
  pub front : IsLongestFront IsText text n
