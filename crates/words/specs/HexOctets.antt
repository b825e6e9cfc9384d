-- A word that is octets in hexadecimal digits.
use Rattle.hex.proofs.HexLemmas.{decode_of-ok, decode_of-encode_lower}
use Rattle.hex.specs.Hex.{decode_of, encode_lower, is_hex_digit, IsBytes}
use Rattle.hex.specs.declared.error.FromHexError.{FromHexError}
use Rattle.std.proofs.Common.{◌≡◌, ℕ, suc, ◌*◌, ◌<◌, ◌≤◌, true, ◌&&◌, if◌then◌else◌, nat_le, List}
use Rattle.std.proofs.Common.{[], ◌∷◌, length, Option, Some, None, Result, Ok, Err, refl, ap, subst}
use Rattle.std.proofs.Common.{arith, get_or}
use Rattle.std.proofs.lemmas.Bool.{and_parts, leb-true, le-leb}
use Rattle.std.specs.Result.{result_ok}
use Rattle.words.specs.Alphabet.{Of}
use Rattle.words.specs.Kind.{Kind}
use Rattle.words.specs.Steps.{◌>>=◌, some_bind, some_is, if_some}

-- so many octets
pub record AreOctets (least most : ℕ) (octets : List ℕ) : Type 0 where
  pub some : least ≤ length octets
  pub few : length octets ≤ most
  pub each : IsBytes octets

abbrev pub in_range : ℕ → ℕ → List ℕ → Option (List ℕ)
in_range least most octets = if nat_le least (length octets)
    && nat_le (length octets) most then Some octets else None

abbrev pub hex_read : ℕ → ℕ → List ℕ → Option (List ℕ)
hex_read least most w = result_ok (decode_of w) >>= in_range least most

ok_some : (r : Result (List ℕ) FromHexError) (x : List ℕ) → result_ok r ≡ Some x → r ≡ Ok x
ok_some (Ok y) x e = ap Ok (some_is y x e)
ok_some (Err f) x e = absurd cc

of_hex : (w : List ℕ) → ((k d : ℕ) → k < length w → is_hex_digit (get_or w k d) ≡ true)
    → Of is_hex_digit w
of_hex [] all = tt
of_hex (c ∷ w) all = (all 0 0 (omega arith), of_hex w (λ k d h. all (suc k) d (omega (arith, h))))

module _ (least most : ℕ) where
  pub hex_spelled : (w octets : List ℕ) → hex_read least most w ≡ Some octets
      → AreOctets least most octets × (decode_of w ≡ Ok octets)
  hex_spelled w octets e =
      let found = some_bind (result_ok (decode_of w)) (in_range least most) octets e in
      let range = if_some (nat_le least (length found.0) && nat_le (length found.0) most) found.0
      octets found.2 in
      let h = and_parts (nat_le least (length found.0)) (nat_le (length found.0) most) range.0 in
      let is = ok_some (decode_of w) found.0 found.1 in
      subst (λ octets. AreOctets least most octets × (decode_of w ≡ Ok octets)) range.1 (
        record {
          some = leb-true least (length found.0) h.0;
          few = leb-true (length found.0) most h.1;
          each = (decode_of-ok w found.0 is).3;
        },
        is,
      )

  pub hex_again : (w octets : List ℕ) → AreOctets least most octets → decode_of w ≡ Ok octets
      → hex_read least most w ≡ Some octets
  hex_again w octets fits e = rw (
    e,
    le-leb least (length octets) fits.some,
    le-leb (length octets) most fits.few,
  ) refl

  pub hex_clean : (w octets : List ℕ) → AreOctets least most octets → decode_of w ≡ Ok octets
      → Of is_hex_digit w
  hex_clean w octets fits e = of_hex w (decode_of-ok w octets e).1

  abbrev pub hex : Kind (List ℕ)
  hex = record {
    read = hex_read least most;
    write = encode_lower;
    Fits = AreOctets least most;
    Spells = λ octets w. decode_of w ≡ Ok octets;
    alphabet = is_hex_digit;
    is_spelled = hex_spelled;
    is_read = hex_again;
    canonical = λ octets fits. decode_of-encode_lower octets fits.each;
    clean = hex_clean;
  }

-- octets, as many as a slice has
abbrev pub all_octets : Kind (List ℕ)
all_octets = hex 0 18446744073709551615

-- a word of more digits than the longest value has is none
pub too_long : (least most : ℕ) (w : List ℕ) → 2 * most < length w → hex_read least most w ≡ None
too_long least most w long =
    elim (hex_read least most w) as (λ o. hex_read least most w ≡ o → o ≡ None) [
      | None ↦ λ is. refl
      | Some octets ↦ λ is.
          let h = hex_spelled least most w octets is in
          absurd (omega (arith, h.0.few, (decode_of-ok w octets h.1).2, long))
    ] refl
