-- How many elements pass a test of their places, from the first one on.
use Rattle.std.proofs.Common.{◌≡◌, ℕ, ◌<◌, ◌≤◌, Bool, true, false, ◌&&◌, nat_lt, List, [], ◌∷◌}
use Rattle.std.proofs.Common.{length, take, ap, sym, ◌∙◌, arith, inl, inr, ◌⊎◌, zero-add, get_or}
use Rattle.std.specs.List.{enumerate_from, prefix_len, sum}
use Rattle.std.proofs.lemmas.List.FromFn.{length-enumerate_from, get_or-enumerate_from}
use Rattle.std.proofs.lemmas.List.Sums.{prefix_len-le-length, prefix_len_passes, prefix_len_stops}
use Rattle.std.proofs.lemmas.Bool.{both_ways, cases_lt, lt-ltb, ltb-true, and_parts, and_from}
use Rattle.std.proofs.lemmas.Bool.{and_left, and_right, le-ltb}
use Rattle.archive_terms.specs.Glimpse.{given}

abbrev pub passing : {X : Type 0} → (ℕ → Bool) → List X → ℕ
passing test xs = prefix_len (λ x. test x.0) (enumerate_from 0 xs)

pub passing-le : {X : Type 0} (test : ℕ → Bool) → (xs : List X) → passing test xs ≤ length xs
passing-le test xs = omega (
  arith,
  prefix_len-le-length (λ x. test x.0) (enumerate_from 0 xs),
  length-enumerate_from 0 xs,
)

at_place : {X : Type 0} (test : ℕ → Bool) → (xs : List X) (j : ℕ) (d : X) → j < length xs
    → test (get_or (enumerate_from 0 xs) j (0, d)).0 ≡ test j
at_place test xs j d within =
    ap (λ x. test x.0) (get_or-enumerate_from 0 xs j (0, d) within) ∙ ap test (zero-add j)

pub passing-passes : {X : Type 0} (test : ℕ → Bool) → (xs : List X) (j : ℕ) → j < passing test xs
    → test j ≡ true
passing-passes {X} test [] j below = absurd (omega (arith, passing-le {X = X} test [], below))
passing-passes test (x ∷ xs) j below =
    sym (at_place test (x ∷ xs) j x (omega (arith, passing-le test (x ∷ xs))))
    ∙ prefix_len_passes (λ y. test y.0) (enumerate_from 0 (x ∷ xs)) j (0, x) below

pub passing-stops : {X : Type 0} (test : ℕ → Bool) → (xs : List X) → passing test xs < length xs
    → test (passing test xs) ≡ false
passing-stops test [] within = absurd (omega arith)
passing-stops test (x ∷ xs) within =
    let k : ℕ = passing test (x ∷ xs) in
    sym (at_place test (x ∷ xs) k x within)
    ∙ prefix_len_stops (λ y. test y.0) (enumerate_from 0 (x ∷ xs)) (
      0,
      x,
    ) (omega (arith, length-enumerate_from 0 (x ∷ xs)))

-- a number before which all pass, and at which one fails or none is left, is it
pub passing-is : {X : Type 0} (test : ℕ → Bool) → (xs : List X) (k : ℕ) → k ≤ length xs
    → ((j : ℕ) → j < k → test j ≡ true)
    → (k < length xs → test k ≡ false) → passing test xs ≡ k
passing-is test xs k within before stops =
    elim (cases_lt (passing test xs) k) [
      | inl less ↦ absurd (both_ways (test (passing test xs)) (passing-stops test xs (omega arith))
          (before (passing test xs) less))
      | inr more ↦ elim (cases_lt k (passing test xs)) [
        | inl less ↦ absurd (both_ways (test k) (stops (omega (arith, passing-le test xs)))
            (passing-passes test xs k less))
        | inr same ↦ omega arith
      ]
    ]

-- ---- what a look gives

abbrev pub fits_at : ℕ → ℕ → List ℕ → ℕ → Bool
fits_at room octets lengths j = nat_lt j room && nat_lt (sum (take j lengths)) octets

pub given-le : (room octets : ℕ) (lengths : List ℕ) → given room octets lengths ≤ length lengths
given-le room octets lengths = passing-le (fits_at room octets lengths) lengths

pub given-open : (room octets : ℕ) (lengths : List ℕ) (j : ℕ) → j < given room octets lengths
    → (j < room) × (sum (take j lengths) < octets)
given-open room octets lengths j below =
    let parts : (nat_lt j room ≡ true) × (nat_lt (sum (take j lengths)) octets ≡ true) =
    and_parts (nat_lt j room) (nat_lt (sum (take j lengths)) octets)
    (passing-passes (fits_at room octets lengths) lengths j below) in
    (ltb-true j room parts.0, ltb-true (sum (take j lengths)) octets parts.1)

ended : (room octets : ℕ) (lengths : List ℕ) (k : ℕ) → fits_at room octets lengths k ≡ false
    → (room ≤ k) ⊎ (octets ≤ sum (take k lengths))
ended room octets lengths k fails =
    elim (cases_lt k room) [
      | inl some ↦ elim (cases_lt (sum (take k lengths)) octets) [
        | inl few ↦ absurd (both_ways (fits_at room octets lengths k) fails
            (and_from (nat_lt k room) (nat_lt (sum (take k lengths)) octets) (lt-ltb k room some)
            (lt-ltb (sum (take k lengths)) octets few)))
        | inr reached ↦ inr reached
      ]
      | inr full ↦ inl full
    ]

pub given-stops : (room octets : ℕ) (lengths : List ℕ) → given room octets lengths < length lengths
    → (room ≤ given room octets lengths) ⊎ (octets ≤ sum (take (given room octets lengths) lengths))
given-stops room octets lengths within =
    ended room octets lengths (given room octets lengths)
    (passing-stops (fits_at room octets lengths) lengths within)

pub given-is : (room octets k : ℕ) (lengths : List ℕ) → k ≤ length lengths
    → ((j : ℕ) → j < k → (j < room) × (sum (take j lengths) < octets))
    → (k < length lengths → (room ≤ k) ⊎ (octets ≤ sum (take k lengths)))
    → given room octets lengths ≡ k
given-is room octets k lengths within before stops =
    passing-is (fits_at room octets lengths) lengths k within
    (λ j below. and_from (nat_lt j room) (nat_lt (sum (take j lengths)) octets)
    (lt-ltb j room (before j below).0) (lt-ltb (sum (take j lengths)) octets
    (before j below).1))
    (λ more. elim (stops more) [
      | inl full ↦ and_left (nat_lt k room) (nat_lt (sum (take k lengths)) octets)
          (le-ltb k room full)
      | inr reached ↦ and_right (nat_lt k room) (nat_lt (sum (take k lengths)) octets)
          (le-ltb (sum (take k lengths)) octets reached)
    ])
