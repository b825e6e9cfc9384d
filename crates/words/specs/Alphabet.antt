-- Which octets a word has.
use Rattle.std.proofs.Common.{◌≡◌, ℕ, Bool, true, false, ◌||◌, ◌==◌, List, [], ◌∷◌, ◌++◌, refl}
use Rattle.std.proofs.Common.{eq-eqb}
use Rattle.std.specs.List.{list_all}
use Rattle.std.proofs.lemmas.Bool.{and_parts}
use Rattle.words.specs.Steps.{or_left, or_right}

-- each octet of a word is one of these
abbrev pub Of : (ℕ → Bool) → List ℕ → Type 0
Of alphabet [] = Unit {0}
Of alphabet (c ∷ w) = (alphabet c ≡ true) × Of alphabet w

abbrev pub EachOf : (ℕ → Bool) → List (List ℕ) → Type 0
EachOf alphabet [] = Unit {0}
EachOf alphabet (w ∷ ws) = Of alphabet w × EachOf alphabet ws

pub of_more : (h k : ℕ → Bool) → ((c : ℕ) → h c ≡ true → k c ≡ true) → (w : List ℕ) → Of h w
    → Of k w
of_more h k more [] m = tt
of_more h k more (c ∷ w) m = (more c m.0, of_more h k more w m.1)

pub each_of_more : (h k : ℕ → Bool) → ((c : ℕ) → h c ≡ true → k c ≡ true) → (ws : List (List ℕ))
    → EachOf h ws → EachOf k ws
each_of_more h k more [] m = tt
each_of_more h k more (w ∷ ws) m = (of_more h k more w m.0, each_of_more h k more ws m.1)

pub of_append : (h : ℕ → Bool) (v w : List ℕ) → Of h v → Of h w → Of h (v ++ w)
of_append h [] w m n = n
of_append h (c ∷ v) w m n = (m.0, of_append h v w m.1 n)

abbrev pub among : List ℕ → ℕ → Bool
among [] c = false
among (x ∷ xs) c = (c == x) || among xs c

pub among_itself : (text : List ℕ) → Of (among text) text
among_itself [] = tt
among_itself (x ∷ xs) = (
  or_left (x == x) (among xs x) (eq-eqb x x refl),
  of_more (among xs) (among (x ∷ xs)) (λ c e. or_right (c == x) (among xs c) e) xs
      (among_itself xs),
)

-- a word whose octets pass a test has only such
pub of_all : (h : ℕ → Bool) (w : List ℕ) → list_all h w ≡ true → Of h w
of_all h [] e = tt
of_all h (c ∷ w) e = let both = and_parts (h c) (list_all h w) e in (both.0, of_all h w both.1)
