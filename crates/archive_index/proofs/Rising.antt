-- Rows that rise: a search among them, and those of an archive.
use Rattle.std.proofs.Common.{◌≡◌, ℕ, zero, suc, ◌+◌, ◌/◌, ◌^◌, ◌<◌, ◌≤◌, Bool, true, false}
use Rattle.std.proofs.Common.{List, [], ◌∷◌, drop, slice_get, Some, refl, arith}
use Rattle.std.proofs.Common.{inl, inr}
use Rattle.std.specs.List.{filter}
use Rattle.std.proofs.Math.Nat.{pow-suc}
use Rattle.std.proofs.lemmas.Bool.{cases_lt, cases_Bool}
use Rattle.std.proofs.lemmas.Bool.Decides.{nat_tests}
use Rattle.archive_index.specs.Rows.{reaches, IsRising}
use Rattle.archive_index.specs.declared.row.Row.{Row}

-- half of what is left takes one digit less
pub halved : (n m d : ℕ) → n < 2 ^ d → 0 < n → m ≤ n / 2 → (e : ℕ) × (m < 2 ^ e) × (e + 1 ≤ d)
halved n m zero small some half = absurd (omega arith)
halved n m (suc d) small some half = (d, omega (arith, pow-suc 2 d), omega arith)

-- what fails up to a place and passes from there on
pub filter_split : {X : Type 0} → (p : X → Bool) (xs : List X) (n : ℕ)
    → ((k : ℕ) (x : X) → k < n → slice_get xs k ≡ Some x → p x ≡ false)
    → ((k : ℕ) (x : X) → n ≤ k → slice_get xs k ≡ Some x → p x ≡ true)
    → filter p xs ≡ drop n xs
filter_split p [] zero low high = refl
filter_split p [] (suc n) low high = refl
filter_split p (x ∷ xs) zero low high =
    let here : p x ≡ true = high 0 x (omega arith) refl in
    let rest : filter p xs ≡ drop 0 xs =
    filter_split p xs 0 (λ k y below is. absurd (omega arith))
    (λ k y above is. high (suc k) y (omega arith) is) in
    rw (here, rest) refl
filter_split p (x ∷ xs) (suc n) low high =
    let here : p x ≡ false = low 0 x (omega arith) refl in
    let rest : filter p xs ≡ drop n xs =
    filter_split p xs n (λ k y below is. low (suc k) y (omega arith) is)
    (λ k y above is. high (suc k) y (omega arith) is) in
    rw (here, rest) refl

reach_up : (place moment : ℕ) (r q : Row) → r.place ≤ q.place → r.moment ≤ q.moment
    → reaches place moment r ≡ true → reaches place moment q ≡ true
reach_up place moment r q later no_earlier here = grind (arith, nat_tests)

-- a row that is reached has only such behind it
pub behind_found : (place moment : ℕ) (rows : List Row) (at : ℕ) (r : Row)
    → slice_get rows at ≡ Some r → reaches place moment r ≡ true → IsRising rows
    → (k : ℕ) (q : Row) → at ≤ k → slice_get rows k ≡ Some q → reaches place moment q ≡ true
behind_found place moment rows at r is here rising k q above there = elim (cases_lt at k) [
  | inl lt ↦
      let up = rising at k r q lt is there in
      reach_up place moment r q (omega (arith, up.0)) up.1 here
  | inr le ↦ let same : at ≡ k = omega arith in cc
]

-- a row that isn't reached has only such before it
pub before_missed : (place moment : ℕ) (rows : List Row) (at : ℕ) (r : Row)
    → slice_get rows at ≡ Some r → reaches place moment r ≡ false → IsRising rows
    → (k : ℕ) (q : Row) → k < at + 1 → slice_get rows k ≡ Some q → reaches place moment q ≡ false
before_missed place moment rows at r is here rising k q below there =
    elim (cases_Bool (reaches place moment q)) [
      | inl reached ↦
          let up = behind_found place moment rows k q there reached rising at r (omega arith) is in
          cc
      | inr missed ↦ missed
    ]
