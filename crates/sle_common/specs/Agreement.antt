-- A service instance identifier has one text and, spelled in any way, one list of attributes and
-- values.
use Rattle.std.specs.Prelude.{◌≡◌, ℕ, ◌↔◌, List, Ok}
use Rattle.ber_core.specs.Length.{IsSlice}
use Rattle.ber_core.specs.Spelling.{Spells}
use Rattle.ber_shape.specs.Exact.{whole}
use Rattle.sle_common.specs.declared.instance_id.InstancePart.{InstancePart}
use Rattle.sle_common.specs.Identifier.{IsIdentifier}
use Rattle.sle_common.specs.IdentifierText.{text_of}
use Rattle.sle_common.specs.IdentifierOctets.{identifier}

-- Octets that are read as an identifier spell the identifier of a text exactly where this is their
-- identifier's text too.
abbrev pub TextAndOctetsAgree : Type 0
TextAndOctetsAgree =
    (octets : List ℕ) (of_text of_octets : List InstancePart) → IsSlice octets
    → IsIdentifier of_text → whole identifier.read octets ≡ Ok of_octets
    → (text_of of_text ≡ text_of of_octets) ↔ Spells (identifier.tree of_text) octets
