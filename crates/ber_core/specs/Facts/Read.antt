-- An INTEGER is read exactly from its octets.
use Rattle.std.proofs.Common.{◌≡◌, ℕ, ℤ, ◌≤ℤ◌, Bool, false, ◌||◌, List, [], ◌∷◌, int_lt, Ok, refl}
use Rattle.std.proofs.Common.{sym, ◌∙◌, arith}
use Rattle.std.proofs.lemmas.Int.{ints}
use Rattle.ber_core.specs.declared.fault.BerFault.TheVariants.{BadContent, Wide}
use Rattle.ber_core.specs.Length.{IsOctets}
use Rattle.ber_core.specs.Integer.{is_redundant, is_wide, signed_of, integer_octets, Has64Bits}
use Rattle.ber_core.specs.Reading.{is_empty, integer_of}
use Rattle.ber_core.specs.Facts.Twos.{IsKept, IsKept-integer_octets, signed_of-integer_octets}
use Rattle.ber_core.specs.Facts.Twos.{same_signed, is_wide-Has64Bits, Has64Bits-is_wide, fits_128}
use Rattle.ber_core.specs.Facts.Found.{if_ok}

out_of_range : ℤ → ℤ → ℤ → Bool
out_of_range least greatest z = int_lt z least || int_lt greatest z

in_range : (least greatest z : ℤ) → (int_lt z least || int_lt greatest z) ≡ false
    → (least ≤ℤ z) × (z ≤ℤ greatest)
in_range least greatest z e = grind (arith, ints)

is_in_range : (least greatest z : ℤ) → least ≤ℤ z → z ≤ℤ greatest
    → (int_lt z least || int_lt greatest z) ≡ false
is_in_range least greatest z low high = grind (arith, ints)

kept_content : (content : List ℕ) → IsOctets content
    → (is_empty content || is_redundant content) ≡ false → IsKept content
kept_content [] octets e = cc
kept_content (first ∷ content) octets e = record {
  some = omega arith;
  octets_all = octets;
  kept = e;
}

content_kept : (content : List ℕ) → IsKept content
    → (is_empty content || is_redundant content) ≡ false
content_kept [] kept = absurd (omega (arith, kept.some))
content_kept (first ∷ content) kept = kept.kept

pub integer_of-spelled : (least greatest z : ℤ) (place : ℕ) (content : List ℕ) → IsOctets content
    → integer_of least greatest place content ≡ Ok z
    → (content ≡ integer_octets z) × Has64Bits z × (least ≤ℤ z) × (z ≤ℤ greatest)
integer_of-spelled least greatest z place content octets e =
    let kept = if_ok (is_empty content || is_redundant content) (BadContent place) _ z e in
    let narrow = if_ok (is_wide content) (Wide place) _ z kept.1 in
    let ranged = if_ok (int_lt (signed_of content) least || int_lt greatest (signed_of content))
    (BadContent place) (Ok (signed_of content)) z narrow.1 in
    let value : signed_of content ≡ z = cc in
    let is_kept = kept_content content octets kept.0 in
    let bits : Has64Bits z = rw value at (is_wide-Has64Bits content is_kept narrow.0) in
    let range = in_range least greatest (signed_of content) ranged.0 in (
      same_signed content (integer_octets z) is_kept (IsKept-integer_octets z) (value
          ∙ sym (signed_of-integer_octets z (fits_128 z bits))),
      bits,
      rw value at range.0,
      rw value at range.1,
    )

pub integer_of-integer_octets : (least greatest z : ℤ) (place : ℕ) → Has64Bits z → least ≤ℤ z
    → z ≤ℤ greatest → integer_of least greatest place (integer_octets z) ≡ Ok z
integer_of-integer_octets least greatest z place bits low high =
    let value : signed_of (integer_octets z) ≡ z = signed_of-integer_octets z (fits_128 z bits) in
    let kept = IsKept-integer_octets z in
    rw (
      content_kept (integer_octets z) kept,
      Has64Bits-is_wide (integer_octets z) kept (rw value bits),
      value,
      is_in_range least greatest z low high,
    ) refl
