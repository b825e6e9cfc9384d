-- Values that have a number each.
use Rattle.std.proofs.Common.{◌≡◌, ℕ, ◌==◌, true, nat_lt, List, [], ◌∷◌, Option, Some, arith}
use Rattle.std.specs.Prelude.{find}

-- the first value of this number
abbrev pub of_number : {X : Type 0} → (X → ℕ) → List X → ℕ → Option X
of_number number all n = find (λ x. number x == n) all

-- the value is the first one of its number, and that is below 128
pub record IsNumbered {X : Type 0} (number : X → ℕ) (all : List X) (x : X) : Type 0 where
  pub found : of_number number all (number x) ≡ Some x
  pub small : nat_lt (number x) 128 ≡ true

abbrev pub AreNumbered : {X : Type 0} → (X → ℕ) → List X → Type 0
AreNumbered {X} number all = (x : X) → IsNumbered number all x

-- a value that was found has the number
pub has_number : {X : Type 0} (number : X → ℕ) (all : List X) (n : ℕ) (x : X)
    → of_number number all n ≡ Some x → number x ≡ n
has_number number [] n x e = absurd cc
has_number number (y ∷ ys) n x e = grind (arith, has_number number ys n x)
