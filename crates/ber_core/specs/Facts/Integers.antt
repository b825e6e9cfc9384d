-- The octets of an INTEGER from those of its two's complement.
use Rattle.std.proofs.Common.{◌≡◌, ℕ, ◌<◌, ◌≤◌, ℤ, pos, ◌+ℤ◌, List, [], ◌∷◌, refl, sym, ◌∙◌, ap}
use Rattle.std.proofs.Common.{FitsSigned, to_z, of_z, arith}
use Rattle.std.specs.Int.{w128, to_be_bytes, cast_unsigned}
use Rattle.std.proofs.lemmas.Int.{to_z-of_z, ints}
use Rattle.ber_core.specs.Integer.{without_redundant, signed_of, integer_octets}
use Rattle.ber_core.specs.Facts.Twos.{IsKept-integer_octets, signed_low, signed_high}
use Rattle.ber_core.specs.Facts.Twos.{signed_of-integer_octets, same_signed}

pub shortest-integer_octets : (z : ℤ) (complement shortest : List ℕ) → FitsSigned w128 z
    → complement ≡ to_be_bytes w128 (cast_unsigned w128 (to_z w128 (of_z w128 z)))
    → shortest ≡ without_redundant complement → shortest ≡ integer_octets z
unfolding integer_octets
shortest-integer_octets z complement shortest fits e f = f
    ∙ ap without_redundant (e ∙ ap (λ y. to_be_bytes w128 (cast_unsigned w128 y))
    (to_z-of_z w128 z fits))

pub complement_is : (z : ℤ) (complement : List ℕ) → FitsSigned w128 z
    → complement ≡ to_be_bytes w128 (cast_unsigned w128 (to_z w128 (of_z w128 z)))
    → complement ≡ to_be_bytes w128 (cast_unsigned w128 z)
complement_is z complement fits e = e
    ∙ ap (λ y. to_be_bytes w128 (cast_unsigned w128 y)) (to_z-of_z w128 z fits)

-- an INTEGER of one octet
one_octet : (z : ℤ) (octet : ℕ) → octet < 256 → FitsSigned w128 z → signed_of (octet ∷ []) ≡ z
    → octet ∷ [] ≡ integer_octets z
one_octet z octet below fits e =
    same_signed (octet ∷ []) (integer_octets z)
    (record { some = omega arith; octets_all = (below, tt); kept = refl })
    (IsKept-integer_octets z)
    (e ∙ sym (signed_of-integer_octets z fits))

pub low_octet : (z : ℤ) (octet : ℕ) → octet < 128 → FitsSigned w128 z → z ≡ pos octet
    → octet ∷ [] ≡ integer_octets z
low_octet z octet low fits e = one_octet z octet (omega arith) fits (signed_low octet [] low
    ∙ omega (arith, ints, e))

pub high_octet : (z : ℤ) (octet : ℕ) → 128 ≤ octet → octet < 256 → FitsSigned w128 z
    → z +ℤ pos 256 ≡ pos octet → octet ∷ [] ≡ integer_octets z
high_octet z octet high below fits e = one_octet z octet below fits (signed_high octet [] high
    ∙ omega (arith, ints, e))
