-- The first of so many words.
use Rattle.std.proofs.Common.{◌≡◌, ℕ, ◌+◌, List, [], ◌∷◌, length, refl, ap, ◌∙◌, arith}
use Rattle.user_line.specs.Line.{Text}

pub record Split (count : ℕ) (words : List Text) : Type 0 where
  pub head : Text
  pub rest : List Text
  pub is : words ≡ head ∷ rest
  pub size : length rest ≡ count

pub split : (count : ℕ) (words : List Text) → length words ≡ count + 1 → Split count words
split count [] size = absurd (omega arith)
split count (head ∷ rest) size =
    record { head = head; rest = rest; is = refl; size = omega arith }

pub no_more : (words : List Text) → length words ≡ 0 → words ≡ []
no_more [] size = refl
no_more (word ∷ rest) size = absurd (omega arith)

-- the same words, where the others are these
pub behind : (count : ℕ) (words rest : List Text) (s : Split count words) → s.rest ≡ rest
    → words ≡ s.head ∷ rest
behind count words rest s same = s.is ∙ ap (λ others. s.head ∷ others) same
