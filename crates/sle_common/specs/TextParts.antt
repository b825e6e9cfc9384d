-- What stands at the front of a text: the label of an attribute, a value, and how they are refused.
use Rattle.std.specs.Prelude.{◌≡◌, ℕ, suc, ◌<◌, ◌≤◌, ◌⊎◌, Bool, false, nat_eq, IsTrue, List, []}
use Rattle.std.specs.Prelude.{◌∷◌, ◌++◌, length}
use Rattle.std.specs.List.{common_prefix_len}
use Rattle.sle_common.specs.declared.attribute.Attribute.{Attribute}
use Rattle.sle_common.specs.Attribute.{label_of}
use Rattle.sle_common.specs.Identifier.{is_value_octet, is_value}
use Rattle.sle_common.specs.IdentifierText.{IsPartsText}
use Rattle.sle_common.specs.Front.{IsRefusedAt}

-- how many octets the attribute's label and the text both begin with
abbrev pub shared : Attribute → List ℕ → ℕ
shared attribute text = common_prefix_len nat_eq (label_of attribute) text

-- No whole label stands at the front of the text, and n octets at most of one do.
pub record IsLongestLabel (text : List ℕ) (n : ℕ) : Type 0 where
  pub reached : (n ≡ 0) ⊎ ((attribute : Attribute) × (n ≡ shared attribute text))
  pub longest : (attribute : Attribute) → shared attribute text ≤ n
  pub none : (attribute : Attribute) → shared attribute text < length (label_of attribute)

abbrev pub begins_with_value_octet : List ℕ → Bool
begins_with_value_octet [] = false
begins_with_value_octet (octet ∷ octets) = is_value_octet octet

-- An attribute and its value stand at the front of the text, and the value doesn't go on behind
-- them.
pub record ReadsPart (text : List ℕ) (attribute : Attribute) (value behind : List ℕ) : Type 0 where
  pub is : text ≡ label_of attribute ++ (value ++ behind)
  pub good : IsTrue (is_value value)
  pub ended : (begins_with_value_octet behind ≡ false) ⊎ (256 ≤ length value)

-- the text is refused here, whatever more attributes it may have
abbrev pub RefusesPart : List ℕ → ℕ → Type 0
RefusesPart text n = (more : ℕ) → IsRefusedAt (IsPartsText (suc more)) text n
