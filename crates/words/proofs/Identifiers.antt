-- Attributes and values that were read are an identifier.
use Rattle.std.proofs.Common.{◌≡◌, ℕ, List, [], ◌∷◌, map, Some, refl, ap, subst}
use Rattle.sle_common.specs.declared.instance_id.InstancePart.{InstancePart}
use Rattle.sle_common.specs.Identifier.{IsIdentifier}
use Rattle.words.specs.Identifiers.{part, fits_identifier}
use Rattle.words.specs.Many.{many}

same_values : (values : List InstancePart) → map (λ value. value) values ≡ values
same_values [] = refl
same_values (value ∷ values) = ap (λ others. value ∷ others) (same_values values)

pub read_is_identifier : (words : List (List ℕ)) (values : List InstancePart)
    → (many part 1 8).read words ≡ Some (map (λ value. value) values) → IsIdentifier values
read_is_identifier words values e =
    subst IsIdentifier (same_values values) (fits_identifier (map (λ value. value) values)
    ((many part 1 8).is_spelled words (map (λ value. value) values) e).0)
