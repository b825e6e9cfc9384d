-- The test of equal identifiers tells equal lists of attributes and values.
use Rattle.std.proofs.Common.{◌≡◌, true, List, sym, ◌∙◌, ap}
use Rattle.std.proofs.lemmas.Bool.{and_parts}
use Rattle.std.specs.Str.{bytes_eq}
use Rattle.std.specs.Cmp.Lexicographic.{pointwise_decides}
use Rattle.sle_common.specs.Attribute.{name_of, attributes}
use Rattle.sle_common.specs.declared.attribute.Attribute.{Attribute}
use Rattle.sle_common.specs.declared.instance_id.InstancePart.{InstancePart}
use Rattle.station_config.specs.Drafts.{same_part, same_id}
use Rattle.words.specs.Fixed.{same_word, is_same}
use Rattle.words.specs.Identifiers.{attributes_are_listed}
use Rattle.words.specs.Judged.{and_so}
use Rattle.words.specs.Listed.{value_of}
use Rattle.words.specs.Steps.{some_is}

same_attribute : (a b : Attribute) → name_of a ≡ name_of b → a ≡ b
same_attribute a b e = some_is a b (sym (attributes_are_listed a)
    ∙ ap (value_of name_of attributes) e ∙ attributes_are_listed b)

part_of : (p q : InstancePart) → p.attribute ≡ q.attribute → p.value ≡ q.value → p ≡ q
part_of p q e f = λ i. record { attribute = e i; value = f i }

from_test : (p q : InstancePart) → same_part p q ≡ true → p ≡ q
from_test p q e =
    let both = and_parts (bytes_eq (name_of p.attribute) (name_of q.attribute))
    (bytes_eq p.value q.value) e in
    part_of p q (same_attribute p.attribute q.attribute
    (same_word (name_of p.attribute) (name_of q.attribute) both.0))
    (same_word p.value q.value both.1)

to_test : (p q : InstancePart) → p ≡ q → same_part p q ≡ true
to_test p q e =
    and_so (bytes_eq (name_of p.attribute) (name_of q.attribute)) (bytes_eq p.value q.value)
    (is_same (name_of p.attribute) (name_of q.attribute) (ap (λ p. name_of p.attribute) e))
    (is_same p.value q.value (ap (λ p. p.value) e))

-- the test passes exactly where the identifiers are the same
pub same_id_decides : (one other : List InstancePart)
    → (same_id one other ≡ true → one ≡ other) × (one ≡ other → same_id one other ≡ true)
same_id_decides one other = pointwise_decides (λ p q. (from_test p q, to_test p q)) one other
