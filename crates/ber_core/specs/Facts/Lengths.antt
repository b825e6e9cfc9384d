-- The shortest length is one of the lengths.
use Rattle.std.proofs.Common.{◌≡◌, ℕ, zero, suc, ◌/◌, ◌%◌, ◌^◌, ◌<◌, ◌≤◌, inl, inr, List, [], ◌∷◌}
use Rattle.std.proofs.Common.{length, refl, sym, ◌∙◌, arith, true, false, rules, nat_lt}
use Rattle.std.proofs.Common.{if◌then◌else◌}
use Rattle.std.specs.Int.{w64, to_be_bytes}
use Rattle.std.proofs.lemmas.Nat.{from_be_bytes-to_be_bytes_8, mod_below}
use Rattle.std.proofs.lemmas.Bool.{ltb-true, ltb-false, le-ltb}
use Rattle.ber_core.specs.Length.{IsOctets, number_of, long_form, IsLength, without_zeros}
use Rattle.ber_core.specs.Length.{shortest_length}
use Rattle.ber_core.specs.Parts.{length-without_zeros}

number_of-without_zeros : (octets : List ℕ) → number_of (without_zeros octets) ≡ number_of octets
number_of-without_zeros [] = refl
number_of-without_zeros (zero ∷ octets) = number_of-without_zeros octets ∙ omega arith
number_of-without_zeros (suc n ∷ octets) = refl

IsOctets-without_zeros : (octets : List ℕ) → IsOctets octets → IsOctets (without_zeros octets)
IsOctets-without_zeros [] h = h
IsOctets-without_zeros (zero ∷ octets) h = IsOctets-without_zeros octets h.1
IsOctets-without_zeros (suc n ∷ octets) h = h

IsOctets-to_be_bytes : (n : ℕ) → IsOctets (to_be_bytes w64 n)
IsOctets-to_be_bytes n = search (rules, mod_below)

number_of-to_be_bytes : (n : ℕ) → n < 2 ^ 64 → number_of (to_be_bytes w64 n) ≡ n
number_of-to_be_bytes n h = let e = from_be_bytes-to_be_bytes_8 n h in omega arith

some_significant : (octets : List ℕ) → 0 < number_of octets → 0 < length (without_zeros octets)
some_significant [] h = h
some_significant (zero ∷ octets) h = some_significant octets (omega arith)
some_significant (suc n ∷ octets) h = omega arith

pub shortest_length-IsLength : (n : ℕ) → n < 2 ^ 64 → IsLength (shortest_length n) n
unfolding shortest_length
shortest_length-IsLength n h =
    elim (nat_lt n 128) as (λ b. nat_lt n 128 ≡ b
    → IsLength (if b then n ∷ [] else long_form (without_zeros (to_be_bytes w64 n))) n) [
      | true ↦ λ e. inl (ltb-true n 128 e, refl)
      | false ↦ λ e. inr (
        without_zeros (to_be_bytes w64 n),
        record {
          some = some_significant (to_be_bytes w64 n)
              (omega (arith, ltb-false n 128 e, number_of-to_be_bytes n h));
          at_most_eight = length-without_zeros (to_be_bytes w64 n);
          octets_all = IsOctets-without_zeros (to_be_bytes w64 n) (IsOctets-to_be_bytes n);
        },
        sym (number_of-without_zeros (to_be_bytes w64 n) ∙ number_of-to_be_bytes n h),
        refl,
      )
    ] refl

-- a length of two octets behind the first one
nonzero_kept : (high : ℕ) (octets : List ℕ) → 0 < high
    → without_zeros (high ∷ octets) ≡ high ∷ octets
nonzero_kept zero octets h = absurd (omega arith)
nonzero_kept (suc n) octets h = refl

consed : {first other : ℕ} {octets others : List ℕ} → first ≡ other → octets ≡ others
    → first ∷ octets ≡ other ∷ others
consed e f = cc

two_bytes : (n : ℕ) → n < 65536 → to_be_bytes w64 n ≡ 0 ∷ 0 ∷ 0 ∷ 0 ∷ 0 ∷ 0 ∷ n / 256 ∷ n % 256 ∷ []
two_bytes n h =
    consed (omega arith) (consed (omega arith)
    (consed (omega arith) (consed (omega arith)
    (consed (omega arith) (consed (omega arith) (consed (omega arith) refl))))))

pub two_octets : (n : ℕ) → 256 ≤ n → n < 65536 → shortest_length n ≡ 130 ∷ n / 256 ∷ n % 256 ∷ []
unfolding shortest_length
two_octets n several few =
    rw (
      le-ltb n 128 (omega arith),
      two_bytes n few,
      nonzero_kept (n / 256) (n % 256 ∷ []) (omega arith),
    ) refl
