-- What the two's complement of an INTEGER says.
use Rattle.std.proofs.Common.{◌≡◌, ℕ, zero, suc, ◌+◌, ◌-◌, ◌*◌, ◌/◌, ◌%◌, ◌^◌, ◌<◌, ◌≤◌, ℤ, pos}
use Rattle.std.proofs.Common.{negsuc, ◌-ℤ◌, ◌+ℤ◌, ◌≤ℤ◌, ◌<ℤ◌, ◌⊎◌, inl, inr, ⊎_elim, true, false}
use Rattle.std.proofs.Common.{if◌then◌else◌, List, [], ◌∷◌, length, nat_lt, FitsSigned, refl, sym}
use Rattle.std.proofs.Common.{◌∙◌, ap, arith}
use Rattle.std.specs.Int.{w128, to_be_bytes, bytes_high_first, byte_at, cast_unsigned}
use Rattle.std.proofs.Math.Nat.{pow-suc, mod-eq_of_lt, pow-le-pow_right}
use Rattle.std.proofs.lemmas.Nat.{mod-pow-add, mul-le, same_from_place}
use Rattle.std.proofs.lemmas.Int.{ints}
use Rattle.std.proofs.lemmas.Bool.{lt-ltb, le-ltb}
use Rattle.std.proofs.lemmas.Bool.Decides.{nat_tests}
use Rattle.ber_core.specs.Length.{IsOctets, number_of}
use Rattle.ber_core.specs.Integer.{is_redundant, without_redundant, signed_of, is_wide}
use Rattle.ber_core.specs.Integer.{integer_octets, Has64Bits}
use Rattle.ber_core.specs.Facts.Numbers.{pow-256, number_of-below}

-- the sign and the number of content octets
pub signed_low : (first : ℕ) (rest : List ℕ) → first < 128
    → signed_of (first ∷ rest) ≡ pos (number_of (first ∷ rest))
signed_low first rest low = rw (lt-ltb first 128 low) refl

pub signed_high : (first : ℕ) (rest : List ℕ) → 128 ≤ first
    → signed_of (first ∷ rest) ≡ pos (number_of (first ∷ rest)) -ℤ pos (256 ^ suc (length rest))
signed_high first rest high = rw (le-ltb first 128 high) refl

by_sign : (first : ℕ) (rest : List ℕ)
    → ((first < 128) × (signed_of (first ∷ rest) ≡ pos (number_of (first ∷ rest))))
    ⊎ ((128 ≤ first) × (signed_of (first ∷ rest)
    ≡ pos (number_of (first ∷ rest)) -ℤ pos (256 ^ suc (length rest))))
by_sign first rest =
    let cases : (first < 128) ⊎ (128 ≤ first) = grind arith in
    ⊎_elim (λ low. inl (low, signed_low first rest low))
    (λ high. inr (high, signed_high first rest high)) cases

-- a redundant first octet says nothing
redundant_cases : (first second : ℕ) (rest : List ℕ) → is_redundant (first ∷ second ∷ rest) ≡ true
    → ((first ≡ 0) × (second < 128)) ⊎ ((first ≡ 255) × (128 ≤ second))
redundant_cases first second rest e = grind (arith, nat_tests)

says_nothing : (first second : ℕ) (rest : List ℕ)
    → ((first ≡ 0) × (second < 128)) ⊎ ((first ≡ 255) × (128 ≤ second))
    → signed_of (second ∷ rest) ≡ signed_of (first ∷ second ∷ rest)
says_nothing first second rest (inl (zero_first, low)) =
    rw zero_first (omega (arith, ints, by_sign second rest, by_sign 0 (second ∷ rest)))
says_nothing first second rest (inr (full, high)) =
    rw full (omega (
      arith,
      ints,
      by_sign second rest,
      by_sign 255 (second ∷ rest),
      pow-suc 256 (suc (length rest)),
    ))

-- what holds as well without a redundant first octet holds without all of them
kept_without : (P : List ℕ → Type 0)
    → ((first second : ℕ) (rest : List ℕ) → is_redundant (first ∷ second ∷ rest) ≡ true
    → P (first ∷ second ∷ rest) → P (second ∷ rest))
    → (octets : List ℕ) → P octets → P (without_redundant octets)
unfolding without_redundant
kept_without P step [] h = h
kept_without P step (first ∷ []) h = h
kept_without P step (first ∷ second ∷ rest) h =
    elim (is_redundant (first ∷ second ∷ rest)) as
    (λ redundant. is_redundant (first ∷ second ∷ rest) ≡ redundant
    → P (if redundant then without_redundant (second ∷ rest) else first ∷ second ∷ rest)) [
      | true ↦ λ e. kept_without P step (second ∷ rest) (step first second rest e h)
      | false ↦ λ e. h
    ] refl

pub signed_of-without_redundant : (octets : List ℕ)
    → signed_of (without_redundant octets) ≡ signed_of octets
signed_of-without_redundant octets =
    kept_without (λ left. signed_of left ≡ signed_of octets)
    (λ first second rest e same.
    says_nothing first second rest (redundant_cases first second rest e) ∙ same) octets refl

-- what is left is not redundant, and it is no octet only where there was none
pub is_redundant-without_redundant : (octets : List ℕ)
    → is_redundant (without_redundant octets) ≡ false
unfolding without_redundant
is_redundant-without_redundant [] = refl
is_redundant-without_redundant (first ∷ octets) =
    elim (is_redundant (first ∷ octets)) as (λ redundant. is_redundant (first ∷ octets) ≡ redundant
    → is_redundant (if redundant then without_redundant octets else first ∷ octets) ≡ false)
    [ true ↦ λ e. is_redundant-without_redundant octets | false ↦ λ e. e ] refl

pub some-without_redundant : (octets : List ℕ) → 0 < length octets
    → 0 < length (without_redundant octets)
some-without_redundant =
    kept_without (λ left. 0 < length left) (λ first second rest e some. omega arith)

pub IsOctets-without_redundant : (octets : List ℕ) → IsOctets octets
    → IsOctets (without_redundant octets)
IsOctets-without_redundant = kept_without IsOctets (λ first second rest e each. each.1)

length-bytes : (k n : ℕ) → length (bytes_high_first k n) ≡ k
length-bytes zero n = refl
length-bytes (suc k) n = ap suc (length-bytes k n)

byte_at-is : (k n : ℕ) → byte_at k n ≡ n / 256 ^ k % 256
byte_at-is zero n = omega arith
byte_at-is (suc k) n = refl

-- n in k octets
number_of-bytes : (k n : ℕ) → number_of (bytes_high_first k n) ≡ n % 256 ^ k
number_of-bytes zero n = omega arith
number_of-bytes (suc k) n =
    let split : n % 2 ^ (8 + 8 * k) ≡ (n / 2 ^ (8 * k) % 2 ^ 8) * 2 ^ (8 * k) + n % 2 ^ (8 * k) =
    mod-pow-add n 8 (8 * k) in
    let eight : 8 + 8 * k ≡ 8 * suc k = omega arith in
    let in_octets : n % 256 ^ suc k ≡ (n / 256 ^ k % 256) * 256 ^ k + n % 256 ^ k =
    rw (eight, pow-256 (suc k), pow-256 k) at split in
    rw (length-bytes k n, byte_at-is k n, number_of-bytes k n) (sym in_octets)

IsOctets-bytes : (k n : ℕ) → IsOctets (bytes_high_first k n)
IsOctets-bytes zero n = tt
IsOctets-bytes (suc k) n = (rw (byte_at-is k n) (omega arith), IsOctets-bytes k n)

complement : (k u : ℕ) → u < 256 ^ suc k → signed_of (bytes_high_first (suc k) u)
    ≡ (if nat_lt (byte_at k u) 128 then pos u else pos u -ℤ pos (256 ^ suc k))
complement k u fits = rw (number_of-bytes (suc k) u, mod-eq_of_lt fits, length-bytes k u) refl

signed_of-complement : (z : ℤ) → FitsSigned w128 z
    → signed_of (bytes_high_first 16 (cast_unsigned w128 z)) ≡ z
signed_of-complement (pos n) fits =
    complement 15 n (omega arith) ∙ rw (lt-ltb (byte_at 15 n) 128 (omega arith)) refl
signed_of-complement (negsuc n) fits =
    complement 15 (2 ^ 128 - suc n) (omega arith)
    ∙ rw (le-ltb (byte_at 15 (2 ^ 128 - suc n)) 128 (omega arith)) (omega (arith, ints))

pub signed_of-integer_octets : (z : ℤ) → FitsSigned w128 z → signed_of (integer_octets z) ≡ z
unfolding integer_octets
signed_of-integer_octets z fits = signed_of-without_redundant
    (to_be_bytes w128 (cast_unsigned w128 z)) ∙ signed_of-complement z fits

-- octets of one length that write one number are the same
number_of-injective : (a b : List ℕ) → length a ≡ length b → IsOctets a → IsOctets b
    → number_of a ≡ number_of b → a ≡ b
number_of-injective [] [] e a_octets b_octets same = refl
number_of-injective [] (y ∷ b) e a_octets b_octets same = absurd (omega arith)
number_of-injective (x ∷ a) [] e a_octets b_octets same = absurd (omega arith)
number_of-injective (x ∷ a) (y ∷ b) e a_octets b_octets same =
    let lengths : length a ≡ length b = omega arith in
    let parts = same_from_place x (number_of a) y (number_of b) (256 ^ length b)
    (rw (← lengths) (number_of-below a a_octets.1)) (number_of-below b b_octets.1)
    (rw lengths at same) in
    let tails = number_of-injective a b lengths a_octets.1 b_octets.1 parts.1 in
    cc

-- content that an INTEGER may have (8.3.2)
pub record IsKept (content : List ℕ) : Type 0 where
  pub some : 0 < length content
  pub octets_all : IsOctets content
  pub kept : is_redundant content ≡ false

-- the numbers that so many octets behind a first one say
record Within (n : ℕ) (z : ℤ) : Type 0 where
  least : pos 0 ≤ℤ (z +ℤ pos (128 * 256 ^ n))
  greatest : z <ℤ pos (128 * 256 ^ n)

worth_by_sign : (first worth : ℕ) → ((first < 128) × (first * worth ≤ 127 * worth))
    ⊎ ((128 ≤ first) × (128 * worth ≤ first * worth))
worth_by_sign first worth =
    let cases : (first < 128) ⊎ (128 ≤ first) = grind arith in
    ⊎_elim (λ low. inl (low, mul-le first worth 127 worth (omega arith) (omega arith)))
    (λ high. inr (high, mul-le 128 worth first worth high (omega arith))) cases

within : (first : ℕ) (rest : List ℕ) → IsOctets (first ∷ rest)
    → Within (length rest) (signed_of (first ∷ rest))
within first rest octets =
    omega (
      arith,
      ints,
      by_sign first rest,
      worth_by_sign first (256 ^ length rest),
      number_of-below rest octets.1,
      number_of-below (first ∷ rest) octets,
      pow-suc 256 (length rest),
    )

-- content of the fewest octets says a number that fewer don't say
kept_second : (first second : ℕ) (rest : List ℕ) → is_redundant (first ∷ second ∷ rest) ≡ false
    → first < 256 → second < 256
    → (128 ≤ first * 256 + second) × (first * 256 + second ≤ 65407)
kept_second first second rest kept fits second_fits = grind (arith, nat_tests)

not_longer : (n first : ℕ) (rest : List ℕ) → IsKept (first ∷ rest)
    → Within n (signed_of (first ∷ rest)) → length rest ≤ n
not_longer n first [] kept said = omega arith
not_longer n first (second ∷ rest) kept said =
    let cases : (suc (length rest) ≤ n) ⊎ (n ≤ length rest) = grind arith in
    let worth = ap (λ worth. first * worth) (pow-suc 256 (length rest)) in
    let some : (128 ≤ first * 256 + second) × (first * 256 + second ≤ 65407) =
    kept_second first second rest kept.kept kept.octets_all.0 kept.octets_all.1.0 in
    ⊎_elim (λ short. short) (λ (long : n ≤ length rest). absurd (omega (
      arith,
      ints,
      pow-le-pow_right {n = 256} (omega arith) long,
      by_sign first (second ∷ rest),
      pow-suc 256 (suc (length rest)),
      number_of-below rest kept.octets_all.1.1,
      mul-le 128 (256 ^ length rest) (first * 256 + second) (256 ^ length rest) some.0
          (omega arith),
      mul-le (first * 256 + second) (256 ^ length rest) 65407 (256 ^ length rest) some.1
          (omega arith),
    ))) cases

pub is_wide-Has64Bits : (content : List ℕ) → IsKept content → is_wide content ≡ false
    → Has64Bits (signed_of content)
is_wide-Has64Bits [] kept e = absurd (omega (arith, kept.some))
is_wide-Has64Bits (first ∷ rest) kept e =
    let narrow : (length rest ≤ 7) ⊎ ((length rest ≡ 8) × (first ≡ 0)) =
    grind (arith, nat_tests) in
    ⊎_elim (λ (short : length rest ≤ 7).
    let said = within first rest kept.octets_all in
    omega (arith, ints, pow-le-pow_right {n = 256} (omega arith) {i = length rest} {j = 7} short))
    (λ (nine : (length rest ≡ 8) × (first ≡ 0)).
    let worth : 256 ^ length rest ≡ 256 ^ 8 = rw nine.0 in
    let none : first * 256 ^ length rest ≡ 0 = rw nine.1 (omega arith) in
    omega (arith, ints, by_sign first rest, number_of-below rest kept.octets_all.1))
    narrow

within_eight : (z : ℤ) → Has64Bits z → Within 8 z
within_eight z bits = omega (arith, ints)

within_seven : (z : ℤ) → Has64Bits z → z <ℤ pos 0 → Within 7 z
within_seven z bits low = omega (arith, ints)

pub Has64Bits-is_wide : (content : List ℕ) → IsKept content → Has64Bits (signed_of content)
    → is_wide content ≡ false
Has64Bits-is_wide [] kept bits = absurd (omega (arith, kept.some))
Has64Bits-is_wide (first ∷ rest) kept bits =
    let short = not_longer 8 first rest kept (within_eight (signed_of (first ∷ rest)) bits) in
    let none : length rest ≡ 8 → first ≡ 0 =
    λ eight. ⊎_elim
    (λ (low : (first < 128) × (signed_of (first ∷ rest) ≡ pos (number_of (first ∷ rest)))).
    let worth : first * 256 ^ length rest ≡ first * 256 ^ 8 = rw eight in
    omega (arith, ints, low.1, bits.greatest))
    (λ (high : (128 ≤ first) × (signed_of (first ∷ rest)
    ≡ pos (number_of (first ∷ rest)) -ℤ pos (256 ^ suc (length rest)))).
    omega (
      arith,
      not_longer 7 first rest kept
          (within_seven (signed_of (first ∷ rest)) bits
          (omega (arith, ints, high.1, number_of-below (first ∷ rest) kept.octets_all))),
    ))
    (by_sign first rest) in
    grind (arith, nat_tests)

-- kept content that says the same number is the same
pub same_signed : (content other : List ℕ) → IsKept content → IsKept other
    → signed_of content ≡ signed_of other → content ≡ other
same_signed [] other kept other_kept e = absurd (omega (arith, kept.some))
same_signed (first ∷ a) [] kept other_kept e = absurd (omega (arith, other_kept.some))
same_signed (first ∷ a) (other ∷ b) kept other_kept e =
    let shorter = not_longer (length b) first a kept
    (rw (← e) at (within other b other_kept.octets_all)) in
    let longer = not_longer (length a) other b other_kept
    (rw e at (within first a kept.octets_all)) in
    let lengths : length a ≡ length b = omega arith in
    let worths : 256 ^ suc (length a) ≡ 256 ^ suc (length b) = rw lengths in
    number_of-injective (first ∷ a) (other ∷ b) (ap suc lengths) kept.octets_all
    other_kept.octets_all (omega (
      arith,
      ints,
      e,
      by_sign first a,
      by_sign other b,
      number_of-below (first ∷ a) kept.octets_all,
      number_of-below (other ∷ b) other_kept.octets_all,
    ))

pub IsKept-integer_octets : (z : ℤ) → IsKept (integer_octets z)
unfolding integer_octets
IsKept-integer_octets z = record {
  some = some-without_redundant (to_be_bytes w128 (cast_unsigned w128 z)) (omega arith);
  octets_all = IsOctets-without_redundant (to_be_bytes w128 (cast_unsigned w128 z))
      (IsOctets-bytes 16 (cast_unsigned w128 z));
  kept = is_redundant-without_redundant (to_be_bytes w128 (cast_unsigned w128 z));
}

pub fits_128 : (z : ℤ) → Has64Bits z → FitsSigned w128 z
fits_128 z bits = omega (arith, ints, bits.least, bits.greatest)
