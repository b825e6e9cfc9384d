use Rattle.std.proofs.Common.{◌≡◌, drop, nat_eq}
use Rattle.std.specs.List.{find}
use Rattle.std.specs.Cmp.Lexicographic.{pointwise}
use Rattle.sle_common.specs.Attribute.{attributes}
use Rattle.sle_common.specs.IdentifierOctets.{attribute_octets, attribute_of}
use Rattle.sle_common.proofs.attribute.Attribute.of_object_id.Given as goal

abbrev pub invariant-loop-attribute : goal.invariant-loop-attribute
invariant-loop-attribute l = attribute_of l.octets
    ≡ find (λ attribute. pointwise nat_eq l.octets (attribute_octets attribute))
    (drop l.attribute-index attributes)
