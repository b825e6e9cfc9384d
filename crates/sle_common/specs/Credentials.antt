-- Credentials (CCSDS 911.1-B, annex A).
use Rattle.std.proofs.Common.{ℕ, Option, Some, None, List, [], ◌∷◌, refl}
use Rattle.ber_shape.specs.Content.{octet_string}
use Rattle.ber_shape.specs.Element.{Element, simple}
use Rattle.ber_shape.specs.Choice.{optional}
use Rattle.sle_common.specs.declared.credentials.Credentials.{Credentials}
use Rattle.sle_common.specs.declared.credentials.Credentials.TheVariants.{Unused, Used}

-- [0] NULL where they are unused, [1] OCTET STRING of 8 to 256 octets
abbrev pub credentials : Element (Option (List ℕ))
credentials = optional (0x81 ∷ []) (simple (0x81 ∷ []) (octet_string 8 256) refl) refl refl

-- the octets, where they are used
abbrev pub credentials_of : Credentials → Option (List ℕ)
credentials_of Unused = None
credentials_of (Used octets) = Some octets.now
