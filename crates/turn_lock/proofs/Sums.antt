-- Sums over a list that is read by `get_elem?`, of which one item changes.
use Rattle.std.proofs.Common.{◌≡◌, ◌≢◌, ℕ, zero, suc, ◌+◌, ◌≤◌, List, [], ◌∷◌, set, refl, sym, ap}
use Rattle.std.proofs.Common.{arith}
use Rattle.std.specs.List.{sum_by}
use Rattle.std.proofs.lemmas.List.Sums.{sum_by-cons}
use mathlib.Core.Option.{some, some-injective, some-ne-none}
use lib.ListN.{get_elem?}

module _ {A : Type 0} (f : A → ℕ) where
  pub sum_set : (l : List A) (i : ℕ) (a b : A) → get_elem? l i ≡ some a
      → sum_by f (set l i b) + f a ≡ sum_by f l + f b
  sum_set [] i a b e = absurd (some-ne-none a (sym e))
  sum_set (x ∷ xs) zero a b e = omega (
    arith,
    ap f (some-injective x a e),
    sum_by-cons f x xs,
    sum_by-cons f b xs,
  )
  sum_set (x ∷ xs) (suc i) a b e = omega (
    arith,
    sum_set xs i a b e,
    sum_by-cons f x xs,
    sum_by-cons f x (set xs i b),
  )

  pub one_of : (l : List A) (i : ℕ) (a : A) → get_elem? l i ≡ some a → f a ≤ sum_by f l
  one_of [] i a e = absurd (some-ne-none a (sym e))
  one_of (x ∷ xs) zero a e = omega (arith, ap f (some-injective x a e), sum_by-cons f x xs)
  one_of (x ∷ xs) (suc i) a e = omega (arith, one_of xs i a e, sum_by-cons f x xs)

  pub two_of : (l : List A) (i j : ℕ) (a b : A) → i ≢ j → get_elem? l i ≡ some a
      → get_elem? l j ≡ some b → f a + f b ≤ sum_by f l
  two_of [] i j a b other e d = absurd (some-ne-none a (sym e))
  two_of (x ∷ xs) zero zero a b other e d = absurd (other refl)
  two_of (x ∷ xs) zero (suc j) a b other e d =
      omega (arith, ap f (some-injective x a e), one_of xs j b d, sum_by-cons f x xs)
  two_of (x ∷ xs) (suc i) zero a b other e d =
      omega (arith, ap f (some-injective x b d), one_of xs i a e, sum_by-cons f x xs)
  two_of (x ∷ xs) (suc i) (suc j) a b other e d =
      omega (arith, two_of xs i j a b (λ s. other (ap suc s)) e d, sum_by-cons f x xs)

  pub sum_none : (l : List A) → ((i : ℕ) (a : A) → get_elem? l i ≡ some a → f a ≡ 0)
      → sum_by f l ≡ 0
  sum_none [] none_of = refl
  sum_none (x ∷ xs) none_of = omega (
    arith,
    none_of zero x refl,
    sum_none xs (λ i a e. none_of (suc i) a e),
    sum_by-cons f x xs,
  )

  pub sum_only : (l : List A) (i : ℕ) (a : A) → get_elem? l i ≡ some a
      → ((j : ℕ) (b : A) → j ≢ i → get_elem? l j ≡ some b → f b ≡ 0) → sum_by f l ≡ f a
  sum_only [] i a e others = absurd (some-ne-none a (sym e))
  sum_only (x ∷ xs) zero a e others = omega (
    arith,
    ap f (some-injective x a e),
    sum_none xs (λ j b d. others (suc j) b (λ k. omega arith) d),
    sum_by-cons f x xs,
  )
  sum_only (x ∷ xs) (suc i) a e others = omega (
    arith,
    others zero x (λ k. omega arith) refl,
    sum_only xs i a e (λ j b n d. others (suc j) b (λ k. n (omega arith)) d),
    sum_by-cons f x xs,
  )

pub here_set : {A : Type 0} (l : List A) (i : ℕ) (a b : A) → get_elem? l i ≡ some a
    → get_elem? (set l i b) i ≡ some b
here_set [] i a b e = absurd (some-ne-none a (sym e))
here_set (x ∷ xs) zero a b e = refl
here_set (x ∷ xs) (suc i) a b e = here_set xs i a b e
