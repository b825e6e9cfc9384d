-- What a service instance identifier of a PDU names.
use Rattle.std.specs.Prelude.{ℕ, List}
use Rattle.ber_shape.specs.List.{list_of}
use Rattle.ber_shape.specs.Lent.{values}
use Rattle.sle_common.specs.declared.instance_id.InstancePart.{InstancePart}
use Rattle.sle_common.specs.declared.instance_ref.InstanceRef.{InstanceRef}
use Rattle.sle_common.specs.declared.instance_ref.InstanceRef.TheVariants.{Spelled, Own}
use Rattle.sle_common.specs.declared.part_ref.PartRef.{PartRef}
use Rattle.sle_common.specs.IdentifierOctets.{part}

abbrev pub part_of : PartRef → InstancePart
part_of part = record { attribute = part.attribute; value = part.value.now }

-- the attributes and values that stand one after another in these octets; none where these are no
-- parts
abbrev pub parts_in : List ℕ → List InstancePart
parts_in octets = values (list_of part 8) octets

-- the list of attributes and values
abbrev pub parts_of : InstanceRef → List InstancePart
parts_of (Spelled octets) = parts_in octets.now
parts_of (Own id) = id.now
