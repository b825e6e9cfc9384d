-- The text of a service instance identifier: `attribute=value`, joined by dots. This product's own
-- format.
use Rattle.std.specs.Prelude.{◌≡◌, ℕ, List, ◌++◌, map}
use Rattle.std.specs.List.{join_with_byte}
use Rattle.sle_common.specs.declared.instance_id.InstancePart.{InstancePart}
use Rattle.sle_common.specs.declared.id_fault.IdFault.{IdFault}
use Rattle.sle_common.specs.declared.id_fault.IdFault.TheVariants.{BadText, Memory}
use Rattle.sle_common.specs.Attribute.{label_of}
use Rattle.sle_common.specs.Front.{IsRefusedAt}
use Rattle.sle_common.specs.Identifier.{AreParts, IsIdentifier}

abbrev pub part_text : InstancePart → List ℕ
part_text part = label_of part.attribute ++ part.value

abbrev pub text_of : List InstancePart → List ℕ
text_of parts = join_with_byte 46 (map part_text parts)

-- a text of at most so many attributes
abbrev pub IsPartsText : ℕ → List ℕ → Type 0
IsPartsText most text = (parts : List InstancePart) × AreParts most parts × (text ≡ text_of parts)

-- a text that some identifier has
abbrev pub IsIdentifierText : List ℕ → Type 0
IsIdentifierText text = IsPartsText 8 text

-- when each fault comes; want of memory is free
abbrev pub Refuses : List ℕ → IdFault → Type 0
Refuses text (BadText place) = IsRefusedAt IsIdentifierText text place
Refuses text Memory = Unit {0}

-- An identifier has one text, and no other identifier has it.
abbrev pub OneIdentifier : Type 0
OneIdentifier = (parts others : List InstancePart) → IsIdentifier parts → IsIdentifier others
    → text_of parts ≡ text_of others → parts ≡ others
