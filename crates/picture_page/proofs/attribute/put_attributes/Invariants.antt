use Rattle.std.proofs.Common.{◌≡◌, ◌++◌, take, map}
use Rattle.std.specs.List.{flat_map}
use Rattle.picture_page.specs.Attributes.{attribute_text, said}
use Rattle.picture_page.proofs.attribute.put_attributes.Given as goal

abbrev pub invariant-loop-attribute : goal.invariant-loop-attribute
invariant-loop-attribute l = l.into.items
    ≡ l.initial.into.items ++ flat_map attribute_text (map said (take l.attribute-index l.attributes))
