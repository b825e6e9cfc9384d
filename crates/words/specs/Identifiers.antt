-- A word that is a service instance identifier: `attribute=value`, joined by dots.
use Rattle.std.proofs.Common.{◌≡◌, ℕ, true, ◌&&◌, nat_le, List, [], ◌∷◌, ◌++◌, length, map, refl}
use Rattle.std.proofs.Common.{sym, ◌∙◌, ap, arith, append-nil, append_assoc}
use Rattle.std.proofs.lemmas.Bool.{and_parts}
use Rattle.std.specs.List.{list_all, AllByRecursion, join_with_byte}
use Rattle.std.specs.Prelude.{IsTrue}
use Rattle.sle_common.specs.declared.attribute.Attribute.{Attribute}
use Rattle.sle_common.specs.declared.attribute.Attribute.TheVariants.{Sagr, Spack, RslFg, FslFg}
use Rattle.sle_common.specs.declared.attribute.Attribute.TheVariants.{Raf, Rcf, Rocf, Cltu}
use Rattle.sle_common.specs.declared.instance_id.InstancePart.{InstancePart}
use Rattle.sle_common.specs.Attribute.{name_of, attributes}
use Rattle.sle_common.specs.Identifier.{is_value_octet, is_value, IsIdentifier}
use Rattle.sle_common.specs.IdentifierText.{part_text, text_of}
use Rattle.words.specs.Alphabet.{Of, of_all}
use Rattle.words.specs.Kind.{Kind, kind_as}
use Rattle.words.specs.Last.{last}
use Rattle.words.specs.Listed.{AreListed, listed}
use Rattle.words.specs.Many.{many, each_fits, AreMany}
use Rattle.words.specs.Parts.{joined, joined_by}
use Rattle.words.specs.Plain.{plain}
use Rattle.words.specs.Separated.{separated}
use Rattle.words.specs.Then.{◌▸◌}

pub attributes_are_listed : AreListed name_of attributes
attributes_are_listed Sagr = refl
attributes_are_listed Spack = refl
attributes_are_listed RslFg = refl
attributes_are_listed FslFg = refl
attributes_are_listed Raf = refl
attributes_are_listed Rcf = refl
attributes_are_listed Rocf = refl
attributes_are_listed Cltu = refl

abbrev pub attribute : Kind Attribute
attribute = listed name_of attributes attributes_are_listed

pub value_octets : (w : List ℕ) → is_value w ≡ true → Of is_value_octet w
value_octets w e = of_all is_value_octet w (and_parts (nat_le 1 (length w) && nat_le (length w) 256)
    (list_all is_value_octet w) e).1

abbrev pub value : Kind (List ℕ)
value = plain is_value is_value_octet value_octets

-- attribute=value
abbrev pub part : Kind InstancePart
part = kind_as (separated 61 (attribute ▸ last value) refl refl) (record {
  to = λ p. record { attribute = p.0; value = p.1 };
  from = λ p. (p.attribute, p.value);
  there = λ p. refl;
  back = λ p. refl;
})

-- 1 to 8 of these
abbrev pub identifier : Kind (List InstancePart)
identifier = separated 46 (many part 1 8) refl refl

values_are : (parts : List InstancePart) → each_fits part.Fits parts
    → AllByRecursion (λ p. IsTrue (is_value p.value)) parts
values_are [] fits = tt
values_are (p ∷ parts) fits = (fits.0.1, values_are parts fits.1)

-- what the kind says fits is an identifier
pub fits_identifier : (parts : List InstancePart) → AreMany part 1 8 parts → IsIdentifier parts
fits_identifier parts fits = record {
  some = omega (arith, fits.some);
  few = fits.few;
  values = values_are parts fits.each;
}

fit_each : (parts : List InstancePart) → AllByRecursion (λ p. IsTrue (is_value p.value)) parts
    → each_fits part.Fits parts
fit_each [] all = tt
fit_each (p ∷ parts) all = ((tt, all.0), fit_each parts all.1)

-- an identifier fits
pub identifier_fits : (parts : List InstancePart) → IsIdentifier parts → AreMany part 1 8 parts
identifier_fits parts is = record {
  some = omega (arith, is.some);
  few = is.few;
  each = fit_each parts is.values;
}

same_part : (p : InstancePart) → part.write p ≡ part_text p
same_part p =
    ap (λ v. name_of p.attribute ++ 61 ∷ v) (append-nil p.value)
    ∙ sym (append_assoc (name_of p.attribute) (61 ∷ []) p.value)

same_parts : (parts : List InstancePart) → map part.write parts ≡ map part_text parts
same_parts [] = refl
same_parts (p ∷ parts) = ap (λ w. w ∷ map part.write parts) (same_part p)
    ∙ ap (λ ws. part_text p ∷ ws) (same_parts parts)

joined_same : (words : List (List ℕ)) → joined_by 46 words ≡ join_with_byte 46 words
joined_same [] = refl
joined_same (w ∷ words) = sym (joined 46 w words)

-- what is written of an identifier is its text
pub writes_text : (parts : List InstancePart) → identifier.write parts ≡ text_of parts
writes_text parts = ap (joined_by 46) (same_parts parts) ∙ joined_same (map part_text parts)
