-- Service instance identifiers in octets (CCSDS 911.1-B, annex A): a SEQUENCE of SETs, each of one
-- SEQUENCE of the attribute's object identifier, 1.3.112.4.3.1.2 and the attribute's arc, and the
-- value as a VisibleString.
use Rattle.std.proofs.Common.{◌≡◌, ℕ, ◌≤◌, Bool, true, false, ◌&&◌, nat_le, if◌then◌else◌, nat_eq}
use Rattle.std.proofs.Common.{Option, Some, None, List, [], ◌∷◌, length, refl, sym, ◌∙◌, ap, arith}
use Rattle.std.specs.List.{AllByRecursion, find, list_all}
use Rattle.std.specs.Cmp.Lexicographic.{pointwise, same_text}
use Rattle.ber_core.specs.Length.{IsSlice}
use Rattle.ber_core.specs.Reading.{is_visible}
use Rattle.ber_shape.specs.Identifier.{both}
use Rattle.ber_shape.specs.Content.{Content, object_id, IsObjectId, visible_string, IsVisible}
use Rattle.ber_shape.specs.Content.{Meaning, with_meaning}
use Rattle.ber_shape.specs.Element.{Element, simple}
use Rattle.ber_shape.specs.Members.{Members, structured, last, ◌▸◌}
use Rattle.ber_shape.specs.Same.{members_as, members_where}
use Rattle.ber_shape.specs.List.{list_of, each_tree, AreFew}
use Rattle.sle_common.specs.declared.attribute.Attribute.{Attribute}
use Rattle.sle_common.specs.declared.attribute.Attribute.TheVariants.{Sagr, Spack, RslFg, FslFg}
use Rattle.sle_common.specs.declared.attribute.Attribute.TheVariants.{Raf, Rcf, Rocf, Cltu}
use Rattle.sle_common.specs.declared.instance_id.InstancePart.{InstancePart}
use Rattle.sle_common.specs.Attribute.{arc_of, attributes}
use Rattle.sle_common.specs.Identifier.{is_value_octet, is_value, IsIdentifier}

-- ---- an attribute

-- 1.3.112.4.3.1.2 and the arc (X.690 8.19)
abbrev pub attribute_octets : Attribute → List ℕ
attribute_octets attribute = 0x2b ∷ 0x70 ∷ 0x04 ∷ 0x03 ∷ 0x01 ∷ 0x02 ∷ arc_of attribute ∷ []

abbrev pub attribute_of : List ℕ → Option Attribute
attribute_of octets = find (λ attribute. pointwise nat_eq octets (attribute_octets attribute))
    attributes

pub attribute_back : (attribute : Attribute) → attribute_of (attribute_octets attribute)
    ≡ Some attribute
attribute_back Sagr = refl
attribute_back Spack = refl
attribute_back RslFg = refl
attribute_back FslFg = refl
attribute_back Raf = refl
attribute_back Rcf = refl
attribute_back Rocf = refl
attribute_back Cltu = refl

pub is_object_id : (attribute : Attribute) → IsObjectId (attribute_octets attribute)
is_object_id Sagr = record { so = refl; short = omega arith }
is_object_id Spack = record { so = refl; short = omega arith }
is_object_id RslFg = record { so = refl; short = omega arith }
is_object_id FslFg = record { so = refl; short = omega arith }
is_object_id Raf = record { so = refl; short = omega arith }
is_object_id Rcf = record { so = refl; short = omega arith }
is_object_id Rocf = record { so = refl; short = omega arith }
is_object_id Cltu = record { so = refl; short = omega arith }

some_is : {A : Type 0} (x y : A) → ◌≡◌ {A = Option A} (Some x) (Some y) → x ≡ y
some_is x y e = cc

none_some : {A : Type 0} (y : A) → ◌≡◌ {A = Option A} None (Some y) → ⊥
none_some y e = cc

by_test : (p : Attribute → Bool) (x a : Attribute) (others : Option Attribute) (test : Bool)
    → p x ≡ test → (if test then Some x else others) ≡ Some a → (others ≡ Some a → p a ≡ true)
    → p a ≡ true
by_test p x a others true is e again = ap p (sym (some_is x a e)) ∙ is
by_test p x a others false other e again = again e

found_so : (p : Attribute → Bool) (xs : List Attribute) (a : Attribute) → find p xs ≡ Some a
    → p a ≡ true
found_so p [] a e = absurd (none_some a e)
found_so p (x ∷ xs) a e = by_test p x a (find p xs) (p x) refl e (found_so p xs a)

pub attribute_sound : (octets : List ℕ) (attribute : Attribute) → IsObjectId octets → IsSlice octets
    → attribute_of octets ≡ Some attribute → Unit {0} × (attribute_octets attribute ≡ octets)
attribute_sound octets attribute fits slice e =
    let same = found_so (λ attribute. pointwise nat_eq octets (attribute_octets attribute))
    attributes attribute e in
    (tt, sym (same_text octets (attribute_octets attribute) (sym same)))

pub attribute_complete : (attribute : Attribute) → Unit {0}
    → IsObjectId (attribute_octets attribute)
    × (attribute_of (attribute_octets attribute) ≡ Some attribute)
attribute_complete attribute holds = (is_object_id attribute, attribute_back attribute)

abbrev pub attribute_meaning : Meaning object_id Attribute
attribute_meaning = record {
  to = attribute_of;
  from = attribute_octets;
  Holds = λ attribute. Unit {0};
  sound = attribute_sound;
  complete = attribute_complete;
}

pub seven : (attribute : Attribute) → Unit {0} → length (attribute_octets attribute) ≤ 7
seven attribute holds = omega arith

-- which has 7 octets
abbrev pub attribute_content : Content Attribute
attribute_content = record (with_meaning object_id attribute_meaning) { most = 7; few = seven }

-- ---- a value

abbrev pub value_of : List ℕ → Option (List ℕ)
value_of octets = if is_value octets then Some octets else None

value_visible : (octet : ℕ) → is_value_octet octet ≡ true → is_visible octet ≡ true
value_visible octet e = grind arith

all_visible : (octets : List ℕ) → list_all is_value_octet octets ≡ true
    → list_all is_visible octets ≡ true
all_visible [] e = refl
all_visible (octet ∷ octets) e =
    let h = both (is_value_octet octet) (list_all is_value_octet octets) e in
    rw (value_visible octet h.0, all_visible octets h.1) refl

tested_value : (octets value : List ℕ) → value_of octets ≡ Some value
    → (is_value octets ≡ true) × (octets ≡ value)
tested_value octets value e = by_test (is_value octets) refl e
  where
    by_test : (test : Bool) → is_value octets ≡ test
        → (if test then Some octets else None) ≡ Some value
        → (is_value octets ≡ true) × (octets ≡ value)
    by_test true is e = (is, some_is octets value e)
    by_test false other e = absurd (none_some value e)

pub value_sound : (octets value : List ℕ) → IsVisible 1 256 octets → IsSlice octets
    → value_of octets ≡ Some value → (is_value value ≡ true) × (value ≡ octets)
value_sound octets value fits slice e = let (is, same) = tested_value octets value e in
    (ap is_value (sym same) ∙ is, sym same)

pub value_complete : (value : List ℕ) → is_value value ≡ true
    → IsVisible 1 256 value × (value_of value ≡ Some value)
value_complete value is =
    let h = both (nat_le 1 (length value) && nat_le (length value) 256)
    (list_all is_value_octet value) is in
    let g = both (nat_le 1 (length value)) (nat_le (length value) 256) h.0 in (
      record {
        lengths = record { least_so = grind arith; greatest_so = grind arith };
        visible_all = all_visible value h.1;
      },
      rw is refl,
    )

abbrev pub value_meaning : Meaning (visible_string 1 256) (List ℕ)
value_meaning = record {
  to = value_of;
  from = λ value. value;
  Holds = λ value. is_value value ≡ true;
  sound = value_sound;
  complete = value_complete;
}

-- ---- an identifier

abbrev pub part_fields : Members InstancePart
part_fields = members_as (simple (0x06 ∷ []) attribute_content refl ▸ last
    (simple (0x1a ∷ []) (with_meaning (visible_string 1 256) value_meaning) refl)) (record {
      to = λ p. record { attribute = p.0; value = p.1 };
      from = λ part. (part.attribute, part.value);
      there = λ part. refl;
      back = λ p. refl;
    })

-- SET of one SEQUENCE
abbrev pub part : Element InstancePart
part = structured (0x31 ∷ []) (last (structured (0x30 ∷ []) part_fields refl)) refl

-- the first one and the others; for none a first one that no identifier has
abbrev pub first_part : List InstancePart → InstancePart × List InstancePart
first_part [] = (record { attribute = Sagr; value = [] }, [])
first_part (first ∷ others) = (first, others)

abbrev PartFits : InstancePart → Type 0
PartFits part = Unit {0} × (is_value part.value ≡ true)

all_fit : (parts : List InstancePart) → AllByRecursion (λ part. is_value part.value ≡ true) parts
    → AllByRecursion PartFits parts
all_fit [] values = tt
all_fit (part ∷ parts) values = ((tt, values.0), all_fit parts values.1)

all_values : (parts : List InstancePart) → AllByRecursion PartFits parts
    → AllByRecursion (λ part. is_value part.value ≡ true) parts
all_values [] fits = tt
all_values (part ∷ parts) fits = (fits.0.1, all_values parts fits.1)

pub parts_there : (parts : List InstancePart) → IsIdentifier parts
    → (PartFits (first_part parts).0 × AreFew PartFits 7 (first_part parts).1)
    × ((first_part parts).0 ∷ (first_part parts).1 ≡ parts)
parts_there [] are = absurd (omega (arith, are.some))
parts_there (first ∷ others) are = (
  (
    (tt, are.values.0),
    record {
      few = omega (arith, are.few);
      each = all_fit others are.values.1;
    },
  ),
  refl,
)

pub parts_back : (p : InstancePart × List InstancePart) → PartFits p.0 × AreFew PartFits 7 p.1
    → IsIdentifier (p.0 ∷ p.1) × (first_part (p.0 ∷ p.1) ≡ p)
parts_back p fits = (
  record {
    some = omega arith;
    few = omega (arith, fits.1.few);
    values = (fits.0.1, all_values p.1 fits.1.each);
  },
  refl,
)

-- 1 to 8 parts
abbrev pub parts : Members (List InstancePart)
parts = members_where (part ▸ list_of part 7) (record {
  to = λ p. p.0 ∷ p.1;
  from = first_part;
  Holds = IsIdentifier;
  there = parts_there;
  back = parts_back;
})

-- their trees are those of the list
pub parts_trees : (list : List InstancePart) → IsIdentifier list
    → parts.trees list ≡ each_tree part.tree list
parts_trees [] are = absurd (omega (arith, are.some))
parts_trees (first ∷ others) are = refl

pub list_fits : (list : List InstancePart) → IsIdentifier list → AreFew part.Fits 8 list
list_fits list are = record { few = are.few; each = all_fit list are.values }

abbrev pub identifier : Element (List InstancePart)
identifier = structured (0x30 ∷ []) parts refl
