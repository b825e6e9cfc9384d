-- Service instance identifiers: lists of attributes and values. The limits are this product's own.
use Rattle.std.specs.Prelude.{ℕ, ◌<◌, ◌≤◌, Bool, not, ◌&&◌, ◌==◌, nat_le, IsTrue, List, length}
use Rattle.std.specs.List.{AllByRecursion, list_all}
use Rattle.sle_common.specs.declared.instance_id.InstancePart.{InstancePart}

-- a character of a value: 21 to 7E, but `.` and `=`
abbrev pub is_value_octet : ℕ → Bool
is_value_octet octet = nat_le 0x21 octet && nat_le octet 0x7e && not (octet == 46)
    && not (octet == 61)

-- a value is 1 to 256 of these
abbrev pub is_value : List ℕ → Bool
is_value value = nat_le 1 (length value) && nat_le (length value) 256
    && list_all is_value_octet value

-- 1 to so many attributes, each with a value
pub record AreParts (most : ℕ) (parts : List InstancePart) : Type 0 where
  pub some : 0 < length parts
  pub few : length parts ≤ most
  pub values : AllByRecursion (λ part. IsTrue (is_value part.value)) parts

-- an identifier has at most 8 attributes
abbrev pub IsIdentifier : List InstancePart → Type 0
IsIdentifier parts = AreParts 8 parts
