-- Numbers that octets write.
use Rattle.std.proofs.Common.{◌≡◌, ℕ, zero, suc, ◌+◌, ◌*◌, ◌^◌, ◌<◌, ◌≤◌, List, [], ◌∷◌, length}
use Rattle.std.proofs.Common.{get_or, drop, refl, ap, ◌∙◌, arith}
use Rattle.std.proofs.Math.Nat.{pow-suc, one-le-pow, pow-le-pow_right, mul_comm, mul_assoc, add-mul}
use Rattle.std.proofs.lemmas.Nat.{mul-le, pow-add}
use Rattle.std.proofs.lemmas.List.{drop_more}
use Rattle.ber_core.specs.Length.{IsOctets, number_of}

pub IsOctets-from_each : (octets : List ℕ) → ((i : ℕ) → get_or octets i 0 < 256) → IsOctets octets
IsOctets-from_each [] h = tt
IsOctets-from_each (octet ∷ octets) h = (h 0, IsOctets-from_each octets (λ i. h (suc i)))

pub number_of-below : (octets : List ℕ) → IsOctets octets → number_of octets < 256 ^ length octets
number_of-below [] h = omega arith
number_of-below (octet ∷ octets) h =
    omega (
      arith,
      h.0,
      number_of-below octets h.1,
      mul-le octet (256 ^ length octets) 255 (256 ^ length octets) (omega (arith, h.0))
          (omega arith),
      pow-suc 256 (length octets),
    )

-- a number of at most 9 octets
pub number_of-narrow : (octets : List ℕ) → IsOctets octets → length octets ≤ 9
    → number_of octets < 2 ^ 72
number_of-narrow octets h narrow = omega (
  arith,
  number_of-below octets h,
  pow-le-pow_right {n = 256} (omega arith) narrow,
)

number_step : (number octet worth next low total : ℕ) → next ≡ worth * 256
    → number * next + (octet * worth + low) ≡ total → (number * 256 + octet) * worth + low ≡ total
number_step number octet worth next low total e f =
    let regrouped : (number * 256 + octet) * worth ≡ number * (worth * 256) + octet * worth
    = add-mul (number * 256) octet worth ∙ ap (λ n. n + octet * worth) (mul_assoc number 256 worth
    ∙ ap (λ n. number * n) (mul_comm 256 worth)) in
    omega (arith, regrouped, rw e at f)

-- one step of reading a number from its octets
pub number_of-more : (octets : List ℕ) (i number : ℕ) → i < length octets
    → number * 256 ^ length (drop i octets) + number_of (drop i octets) ≡ number_of octets
    → (number * 256 + get_or octets i 0) * 256 ^ length (drop (i + 1) octets) + number_of
    (drop (i + 1) octets) ≡ number_of octets
number_of-more octets i number some so_far =
    let at : number * 256 ^ suc (length (drop (i + 1) octets))
    + (get_or octets i 0 * 256 ^ length (drop (i + 1) octets) + number_of (drop (i + 1) octets))
    ≡ number_of octets
    = rw (drop_more octets i 0 some) at so_far in
    number_step number (get_or octets i 0) (256 ^ length (drop (i + 1) octets))
    (256 ^ suc (length (drop (i + 1) octets))) (number_of (drop (i + 1) octets))
    (number_of octets) (pow-suc 256 (length (drop (i + 1) octets))) at

-- and the number so far is at most the whole
pub number_of-fits : (octets rest : List ℕ) (number : ℕ)
    → number * 256 ^ length rest + number_of rest ≡ number_of octets → number ≤ number_of octets
number_of-fits octets rest number so_far =
    omega (
      arith,
      mul-le number 1 number (256 ^ length rest) (omega arith)
          (one-le-pow (length rest) 256 (omega arith)),
    )

pub pow-256 : (k : ℕ) → 2 ^ (8 * k) ≡ 256 ^ k
pow-256 zero = refl
pow-256 (suc k) =
    let eight : 8 * suc k ≡ 8 * k + 8 = omega arith in
    rw (eight, pow-add 2 (8 * k) 8, pow-256 k, pow-suc 256 k) refl
