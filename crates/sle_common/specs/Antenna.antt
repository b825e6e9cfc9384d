-- Antenna identifiers (CCSDS 911.1-B, annex A).
use Rattle.std.proofs.Common.{◌≡◌, ℕ, List, [], ◌∷◌, ◌⊎◌, inl, inr, refl}
use Rattle.ber_shape.specs.Content.{octet_string, object_id}
use Rattle.ber_shape.specs.Element.{Element, simple}
use Rattle.ber_shape.specs.Same.{element_as}
use Rattle.ber_shape.specs.Choice.{either}
use Rattle.sle_common.specs.declared.antenna_id.AntennaId.{AntennaId}
use Rattle.sle_common.specs.declared.antenna_id.AntennaId.TheVariants.{Global, Local}

-- the content of an OBJECT IDENTIFIER, or octets of the station's own
pub data Antenna : Type 0 where
  global : List ℕ → Antenna
  local : List ℕ → Antenna

abbrev pub antenna_from : List ℕ ⊎ List ℕ → Antenna
antenna_from (inl octets) = local octets
antenna_from (inr octets) = global octets

abbrev pub of_antenna : Antenna → List ℕ ⊎ List ℕ
of_antenna (local octets) = inl octets
of_antenna (global octets) = inr octets

pub antenna_there : (a : Antenna) → antenna_from (of_antenna a) ≡ a
antenna_there (local octets) = refl
antenna_there (global octets) = refl

pub antenna_back : (z : List ℕ ⊎ List ℕ) → of_antenna (antenna_from z) ≡ z
antenna_back (inl octets) = refl
antenna_back (inr octets) = refl

-- [0] OBJECT IDENTIFIER, [1] OCTET STRING of 1 to 16 octets
abbrev pub antenna : Element Antenna
antenna = element_as (either (0x81 ∷ []) (simple (0x81 ∷ []) (octet_string 1 16) refl)
    (simple (0x80 ∷ []) object_id refl) refl refl)
    (record { to = antenna_from; from = of_antenna; there = antenna_there; back = antenna_back })

-- what contracts see of one that is lent
abbrev pub antenna_of : AntennaId → Antenna
antenna_of (Global octets) = global octets.now
antenna_of (Local octets) = local octets.now
