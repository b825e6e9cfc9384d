-- The annotation of a frame (CCSDS 911.1-B, annex A).
use Rattle.std.proofs.Common.{ℕ, Option, List, [], ◌∷◌, refl}
use Rattle.ber_shape.specs.Content.{octet_string}
use Rattle.ber_shape.specs.Element.{Element, simple}
use Rattle.ber_shape.specs.Choice.{optional}

-- [0] NULL where there is none, [1] OCTET STRING of 1 to 128 octets
abbrev pub annotation : Element (Option (List ℕ))
annotation = optional (0x81 ∷ []) (simple (0x81 ∷ []) (octet_string 1 128) refl) refl refl
