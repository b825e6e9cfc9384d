-- Steps of the loop over pairs of digits.
use Rattle.std.proofs.Common.{◌≡◌, ℕ, ◌+◌, ◌*◌, ◌%◌, ◌<◌, ◌≤◌, max, inl, inr, List, length, take, drop}
use Rattle.std.proofs.Common.{slice_index, slice_set, Some, None, Ok, Err, refl}
use Rattle.std.proofs.Common.{ap, ◌∙◌, arith}
use Rattle.std.proofs.lemmas.Bool.{cases_lt}
use Rattle.std.specs.Result.{result_ok}
use Rattle.hex.proofs.Pairs.{prepend, decode_step, decode_err}
use Rattle.hex.specs.Hex.{decode_pairs, digit_or_error, hex_digit_value, pair_value, value_at}
use Rattle.hex.specs.declared.error.FromHexError.TheVariants.{InvalidHexCharacter}
use Rattle.hex_text.proofs.Values.{value_of, is_digit, is_no_digit}

-- i octets are read of the digits, and this is the greatest value
pub record Reads (s out : List ℕ) (i greatest : ℕ) : Type 0 where
  pub digits : greatest < 16
      → decode_pairs 0 s ≡ prepend (take i out) (decode_pairs (2 * i) (drop (2 * i) s))
  pub others : 16 ≤ greatest → result_ok (decode_pairs 0 s) ≡ None

pair_of : (a b h l i : ℕ) → hex_digit_value a ≡ Some h → hex_digit_value b ≡ Some l
    → pair_value a b i ≡ Ok (h * 16 + l)
pair_of a b h l i ea eb =
    let first : value_at a i ≡ Ok h = ap (digit_or_error a i) ea in
    let second : value_at b (i + 1) ≡ Ok l = ap (digit_or_error b (i + 1)) eb in
    rw (first, second) refl

no_first : (a b i : ℕ) → hex_digit_value a ≡ None
    → pair_value a b i ≡ Err (InvalidHexCharacter a i)
no_first a b i ea =
    let first : value_at a i ≡ Err (InvalidHexCharacter a i) = ap (digit_or_error a i) ea in
    rw first refl

no_second : (a b h i : ℕ) → hex_digit_value a ≡ Some h → hex_digit_value b ≡ None
    → pair_value a b i ≡ Err (InvalidHexCharacter b (i + 1))
no_second a b h i ea eb =
    let first : value_at a i ≡ Ok h = ap (digit_or_error a i) ea in
    let second : value_at b (i + 1) ≡ Err (InvalidHexCharacter b (i + 1)) =
    ap (digit_or_error b (i + 1)) eb in
    rw (first, second) refl

module _ (s out : List ℕ) (i greatest h l : ℕ) (fits : 2 * i + 1 < length s)
    (room : i < length out) (high : h ≡ value_of (slice_index s (2 * i)))
    (low : l ≡ value_of (slice_index s (2 * i + 1))) (old : Reads s out i greatest) where
  abbrev octet : ℕ
  octet = (h * 16 % 256 + l) % 256

  all_digits : greatest < 16 → h < 16 → l < 16
      → decode_pairs 0 s
      ≡ prepend (take (i + 1) (slice_set out i octet))
      (decode_pairs (2 * (i + 1)) (drop (2 * (i + 1)) s))
  all_digits g sh sl =
      let pair = pair_of (slice_index s (2 * i)) (slice_index s (2 * i + 1)) h l (2 * i)
      (is_digit (slice_index s (2 * i)) h high sh)
      (is_digit (slice_index s (2 * i + 1)) l low sl) in
      let is : h * 16 + l ≡ octet = omega (arith, sh, sl) in
      decode_step s out i octet fits room (pair ∙ ap Ok is) (old.digits g)

  none_by_first : greatest < 16 → 16 ≤ h → result_ok (decode_pairs 0 s) ≡ None
  none_by_first g wide =
      ap result_ok (decode_err s out i _ fits
      (no_first (slice_index s (2 * i)) (slice_index s (2 * i + 1)) (2 * i)
      (is_no_digit (slice_index s (2 * i)) h high wide)) (old.digits g))

  none_by_second : greatest < 16 → h < 16 → 16 ≤ l → result_ok (decode_pairs 0 s) ≡ None
  none_by_second g small wide =
      ap result_ok (decode_err s out i _ fits
      (no_second (slice_index s (2 * i)) (slice_index s (2 * i + 1)) h (2 * i)
      (is_digit (slice_index s (2 * i)) h high small)
      (is_no_digit (slice_index s (2 * i + 1)) l low wide)) (old.digits g))

  none : 16 ≤ max (max greatest h) l → result_ok (decode_pairs 0 s) ≡ None
  none wide =
      elim (cases_lt greatest 16) [
        | inr before ↦ old.others before
        | inl g ↦ elim (cases_lt h 16) [
          | inr first ↦ none_by_first g first
          | inl small ↦ none_by_second g small (omega (arith, wide, g, small))
        ]
      ]

  pub reads_on : Reads s (slice_set out i octet) (i + 1) (max (max greatest h) l)
  reads_on = record {
    digits = λ small.
        let g : greatest < 16 = omega (arith, small) in
        let sh : h < 16 = omega (arith, small) in
        let sl : l < 16 = omega (arith, small) in
        all_digits g sh sl;
    others = none;
  }
