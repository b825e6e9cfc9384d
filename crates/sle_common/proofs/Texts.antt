-- The texts of identifiers, read from the front.
use Rattle.std.proofs.Common.{◌≡◌, ℕ, suc, ◌+◌, ◌<◌, ◌⊎◌, inl, inr, Bool, true, false, ◌&&◌, List}
use Rattle.std.proofs.Common.{[], ◌∷◌, ◌++◌, length, refl, sym, ◌∙◌, ap, subst, append_assoc}
use Rattle.std.proofs.Common.{append-nil, arith, length-append}
use Rattle.std.specs.List.{AllByRecursion, list_all}
use Rattle.sle_common.specs.declared.instance_id.InstancePart.{InstancePart}
use Rattle.sle_common.specs.declared.attribute.Attribute.{Attribute}
use Rattle.sle_common.specs.Attribute.{label_of}
use Rattle.sle_common.specs.Identifier.{is_value_octet, is_value, AreParts}
use Rattle.sle_common.specs.IdentifierText.{part_text, text_of, IsPartsText}
use Rattle.sle_common.specs.TextParts.{begins_with_value_octet}
use Rattle.sle_common.proofs.Labels.{one_label}
use Rattle.sle_common.proofs.Values.{AreOctets, IsValue, value_is, goes_on}

-- what stands behind a value: nothing, or a dot and at most so many attributes
abbrev pub Tails : ℕ → List ℕ → Type 0
Tails most tail = (tail ≡ []) ⊎ ((text : List ℕ) × (tail ≡ 46 ∷ text) × IsPartsText most text)

-- what stands behind a label
pub record Values (most : ℕ) (text : List ℕ) : Type 0 where
  pub value : List ℕ
  pub tail : List ℕ
  pub good : is_value value ≡ true
  pub behind : Tails most tail
  pub is : text ≡ value ++ tail

abbrev pub part_of : Attribute → List ℕ → InstancePart
part_of attribute value = record { attribute = attribute; value = value }

-- the text of further attributes behind the first one's
abbrev pub dotted : List InstancePart → List ℕ
dotted [] = []
dotted (part ∷ parts) = 46 ∷ text_of (part ∷ parts)

pub text_of-cons : (part : InstancePart) (parts : List InstancePart)
    → text_of (part ∷ parts) ≡ label_of part.attribute ++ (part.value ++ dotted parts)
text_of-cons part [] = ap (λ value. label_of part.attribute ++ value) (sym (append-nil part.value))
text_of-cons part (next ∷ parts) = append_assoc (label_of part.attribute) part.value
    (dotted (next ∷ parts))

-- what is written of the parts from the front on, with what is left behind it
pub written_first : (part : InstancePart) (parts : List InstancePart)
    → part_text part ++ dotted parts ≡ text_of (part ∷ parts)
written_first part parts = append_assoc (label_of part.attribute) part.value (dotted parts)
    ∙ sym (text_of-cons part parts)

pub written_next : (done : List ℕ) (part : InstancePart) (parts : List InstancePart)
    → ((done ++ 46 ∷ []) ++ part_text part) ++ dotted parts ≡ done ++ dotted (part ∷ parts)
written_next done part parts = append_assoc (done ++ 46 ∷ []) (part_text part) (dotted parts)
    ∙ append_assoc done (46 ∷ []) (part_text part ++ dotted parts)
    ∙ ap (λ text. done ++ 46 ∷ text) (written_first part parts)

dotted_tail : (most : ℕ) (part : InstancePart) (parts : List InstancePart)
    → AreParts (suc most) (part ∷ parts) → Tails most (dotted parts)
dotted_tail most part [] are = inl refl
dotted_tail most part (next ∷ parts) are =
    inr (
      text_of (next ∷ parts),
      refl,
      (
        next ∷ parts,
        record { some = omega arith; few = omega (arith, are.few); values = are.values.1 },
        refl,
      ),
    )

-- behind a label stands a value with its tail
pub label_gone : (most : ℕ) (attribute : Attribute) (text : List ℕ)
    → IsPartsText (suc most) (label_of attribute ++ text) → Values most text
label_gone most attribute text ([], are, e) = absurd (omega (arith, are.some))
label_gone most attribute text (part ∷ parts, are, e) =
    let whole = e ∙ text_of-cons part parts in
    let same = one_label attribute part.attribute text (part.value ++ dotted parts) whole in
    let rest : text ≡ part.value ++ dotted parts =
    cancel (label_of attribute) text (part.value ++ dotted parts) (whole
    ∙ ap (λ a. label_of a ++ (part.value ++ dotted parts)) (sym same)) in
    record {
      value = part.value;
      tail = dotted parts;
      good = are.values.0;
      behind = dotted_tail most part parts are;
      is = rest;
    }
  where
    tails : (x y : ℕ) (xs ys : List ℕ) → x ∷ xs ≡ y ∷ ys → xs ≡ ys
    tails x y xs ys e = cc

    cancel : (f xs ys : List ℕ) → f ++ xs ≡ f ++ ys → xs ≡ ys
    cancel [] xs ys e = e
    cancel (x ∷ f) xs ys e = cancel f xs ys (tails x x (f ++ xs) (f ++ ys) e)

pub label_put : (most : ℕ) (attribute : Attribute) (text : List ℕ) → Values most text
    → IsPartsText (suc most) (label_of attribute ++ text)
label_put most attribute text values = by_tail values.behind
  where
    by_tail : Tails most values.tail → IsPartsText (suc most) (label_of attribute ++ text)
    by_tail (inl none) = (
      part_of attribute values.value ∷ [],
      record { some = omega arith; few = omega arith; values = (values.good, tt) },
      ap (λ text. label_of attribute ++ text) (values.is ∙ ap (λ tail. values.value ++ tail) none
          ∙ append-nil values.value),
    )
    by_tail (inr (behind, is, (parts, are, text_is))) = with_parts behind is parts are text_is
      where
        with_parts : (behind : List ℕ) → values.tail ≡ 46 ∷ behind → (parts : List InstancePart)
            → AreParts most parts → behind ≡ text_of parts
            → IsPartsText (suc most) (label_of attribute ++ text)
        with_parts behind is [] are text_is = absurd (omega (arith, are.some))
        with_parts behind is (part ∷ parts) are text_is = (
          part_of attribute values.value ∷ part ∷ parts,
          record {
            some = omega arith;
            few = omega (arith, are.few);
            values = (values.good, are.values);
          },
          ap (λ text. label_of attribute ++ text) (values.is
              ∙ ap (λ tail. values.value ++ tail) (is ∙ ap (λ t. 46 ∷ t) text_is))
              ∙ sym (text_of-cons (part_of attribute values.value) (part ∷ parts)),
        )

tail_ends : (most : ℕ) (tail : List ℕ) → Tails most tail → begins_with_value_octet tail ≡ false
tail_ends most tail (inl none) = ap begins_with_value_octet none
tail_ends most tail (inr (text, is, parts)) = ap begins_with_value_octet is

-- which octet may stand behind octets of a value: a dot, or one more of it
pub values_next : (most : ℕ) (v : List ℕ) (octet : ℕ) (text : List ℕ) → AreOctets v
    → Values most (v ++ octet ∷ text)
    → ((octet ≡ 46) × IsPartsText most text × (is_value v ≡ true))
    ⊎ ((is_value_octet octet ≡ true) × (length v < 256))
values_next most v octet text all values =
    let is = value_is values.value values.good in
    let on = goes_on v values.value values.tail (octet ∷ text) all is.octets
    (tail_ends most values.tail values.behind) (sym values.is) in
    by_more on.more on.longer on.rest on.octets is
  where
    heads : (x y : ℕ) (xs ys : List ℕ) → x ∷ xs ≡ y ∷ ys → (x ≡ y) × (xs ≡ ys)
    heads x y xs ys e = (cc, cc)

    by_tail : octet ∷ text ≡ values.tail → is_value v ≡ true → Tails most values.tail
        → ((octet ≡ 46) × IsPartsText most text × (is_value v ≡ true))
        ⊎ ((is_value_octet octet ≡ true) × (length v < 256))
    by_tail e good (inl none) = absurd (nothing (e ∙ none))
      where
        nothing : octet ∷ text ≡ [] → ⊥
        nothing e = cc
    by_tail e good (inr (behind, is, parts)) =
        let (dot, same) = heads octet 46 text behind (e ∙ is) in
        inl (dot, subst (IsPartsText most) (sym same) parts, good)

    by_more : (more : List ℕ) → values.value ≡ v ++ more → octet ∷ text ≡ more ++ values.tail
        → AreOctets more → IsValue values.value
        → ((octet ≡ 46) × IsPartsText most text × (is_value v ≡ true))
        ⊎ ((is_value_octet octet ≡ true) × (length v < 256))
    by_more [] longer rest these is = by_tail rest (ap is_value (sym (longer ∙ append-nil v))
        ∙ values.good) values.behind
    by_more (c ∷ more) longer rest these is =
        let (same, others) = heads octet c text (more ++ values.tail) rest in
        inr (
          ap is_value_octet same ∙ first c more these,
          omega (arith, is.few, ap length longer, length-append v (c ∷ more)),
        )
      where
        both_first : (a b : Bool) → (a && b) ≡ true → a ≡ true
        both_first true b e = refl
        both_first false b e = cc

        first : (c : ℕ) (more : List ℕ) → AreOctets (c ∷ more) → is_value_octet c ≡ true
        first c more e = both_first (is_value_octet c) (list_all is_value_octet more) e

no_dot : is_value_octet 46 ≡ true → ⊥
no_dot e = cc

-- behind a value and a dot stand fewer attributes
pub dot_gone : (most : ℕ) (v text : List ℕ) → is_value v ≡ true → Values most (v ++ 46 ∷ text)
    → IsPartsText most text
dot_gone most v text good values =
    elim (values_next most v 46 text (value_is v good).octets values)
    [ inl next ↦ next.1 | inr more ↦ absurd (no_dot more.0) ]

pub dot_put : (most : ℕ) (v text : List ℕ) → is_value v ≡ true → IsPartsText most text
    → Values most (v ++ 46 ∷ text)
dot_put most v text good parts = record {
  value = v;
  tail = 46 ∷ text;
  good = good;
  behind = inr (text, refl, parts);
  is = refl;
}

-- ---- attributes that were read, each with a dot behind it

abbrev pub front_of : List InstancePart → List ℕ
front_of [] = []
front_of (part ∷ parts) = label_of part.attribute ++ (part.value ++ (46 ∷ front_of parts))

abbrev pub AreValues : List InstancePart → Type 0
AreValues parts = AllByRecursion (λ part. is_value part.value ≡ true) parts

front_assoc : (label value rest t : List ℕ) → (label ++ (value ++ (46 ∷ rest))) ++ t
    ≡ label ++ (value ++ (46 ∷ (rest ++ t)))
front_assoc label value rest t = simp append_assoc

pub front_gone : (parts : List InstancePart) (most total : ℕ) (t : List ℕ)
    → total ≡ length parts + most → AreValues parts → IsPartsText total (front_of parts ++ t)
    → IsPartsText most t
front_gone [] most total t e good is = subst (λ n. IsPartsText n t) (omega (arith, e)) is
front_gone (part ∷ parts) most total t e good is =
    let n : total ≡ suc (length parts + most) = omega (arith, e) in
    let here = subst (λ n. IsPartsText n (front_of (part ∷ parts) ++ t)) n is in
    let moved = subst (IsPartsText (suc (length parts + most)))
    (front_assoc (label_of part.attribute) part.value (front_of parts) t) here in
    let values = label_gone (length parts + most) part.attribute
    (part.value ++ (46 ∷ (front_of parts ++ t))) moved in
    front_gone parts most (length parts + most) t refl good.1
    (dot_gone (length parts + most) part.value (front_of parts ++ t) good.0 values)

pub front_put : (parts : List InstancePart) (most total : ℕ) (t : List ℕ)
    → total ≡ length parts + most → AreValues parts → IsPartsText most t
    → IsPartsText total (front_of parts ++ t)
front_put [] most total t e good is = subst (λ n. IsPartsText n t) (omega (arith, e)) is
front_put (part ∷ parts) most total t e good is =
    let n : suc (length parts + most) ≡ total = omega (arith, e) in
    let rest = front_put parts most (length parts + most) t refl good.1 is in
    let moved = label_put (length parts + most) part.attribute
    (part.value ++ (46 ∷ (front_of parts ++ t)))
    (dot_put (length parts + most) part.value (front_of parts ++ t) good.0 rest) in
    subst (λ n. IsPartsText n (front_of (part ∷ parts) ++ t)) n
    (subst (IsPartsText (suc (length parts + most)))
    (sym (front_assoc (label_of part.attribute) part.value (front_of parts) t)) moved)

one_more : (parts : List InstancePart) (part : InstancePart)
    → dotted (parts ++ part ∷ []) ≡ 46 ∷ text_of (parts ++ part ∷ [])
one_more [] part = refl
one_more (next ∷ parts) part = refl

-- the last one has no dot
pub text_of-last : (parts : List InstancePart) (part : InstancePart)
    → text_of (parts ++ part ∷ []) ≡ front_of parts ++ part_text part
text_of-last [] part = refl
text_of-last (next ∷ parts) part =
    text_of-cons next (parts ++ part ∷ [])
    ∙ ap (λ tail. label_of next.attribute ++ (next.value ++ tail)) (one_more parts part
    ∙ ap (λ text. 46 ∷ text) (text_of-last parts part))
    ∙ sym (front_assoc (label_of next.attribute) next.value (front_of parts) (part_text part))

pub front_of-last : (parts : List InstancePart) (part : InstancePart)
    → front_of (parts ++ part ∷ []) ≡ front_of parts
    ++ (label_of part.attribute ++ (part.value ++ (46 ∷ [])))
front_of-last [] part = refl
front_of-last (next ∷ parts) part =
    ap (λ rest. label_of next.attribute ++ (next.value ++ (46 ∷ rest))) (front_of-last parts part)
    ∙ sym (front_assoc (label_of next.attribute) next.value (front_of parts)
    (label_of part.attribute ++ (part.value ++ (46 ∷ []))))

-- ---- a text is one identifier's alone

cut_here : (v w tail u : List ℕ) (more : List ℕ) → w ≡ v ++ more → u ≡ more ++ tail → AreOctets more
    → begins_with_value_octet u ≡ false → (v ≡ w) × (u ≡ tail)
cut_here v w tail u [] longer rest all ends = (sym (longer ∙ append-nil v), rest)
cut_here v w tail u (c ∷ more) longer rest all ends =
    absurd (goes (is_value_octet c) (list_all is_value_octet more) all
    (sym (ap begins_with_value_octet rest) ∙ ends))
  where
    goes : (a b : Bool) → (a && b) ≡ true → a ≡ false → ⊥
    goes true b e other = cc
    goes false b e other = cc

pub one_value : (v w tail u : List ℕ) → is_value v ≡ true → is_value w ≡ true
    → begins_with_value_octet tail ≡ false → begins_with_value_octet u ≡ false → v ++ u ≡ w ++ tail
    → (v ≡ w) × (u ≡ tail)
one_value v w tail u good good' ends ends' e =
    let on = goes_on v w tail u (value_is v good).octets (value_is w good').octets ends (sym e) in
    cut_here v w tail u on.more on.longer on.rest on.octets ends'

dotted_ends : (parts : List InstancePart) → begins_with_value_octet (dotted parts) ≡ false
dotted_ends [] = refl
dotted_ends (part ∷ parts) = refl

behind_label : (a b : Attribute) (xs ys : List ℕ) → label_of a ++ xs ≡ label_of b ++ ys
    → (a ≡ b) × (xs ≡ ys)
behind_label a b xs ys e =
    let same = one_label a b xs ys e in
    (same, cancel (label_of a) xs ys (e ∙ ap (λ a. label_of a ++ ys) (sym same)))
  where
    tails : (x : ℕ) (xs ys : List ℕ) → x ∷ xs ≡ x ∷ ys → xs ≡ ys
    tails x xs ys e = cc

    cancel : (f xs ys : List ℕ) → f ++ xs ≡ f ++ ys → xs ≡ ys
    cancel [] xs ys e = e
    cancel (x ∷ f) xs ys e = cancel f xs ys (tails x (f ++ xs) (f ++ ys) e)

undotted : (x y : List ℕ) → 46 ∷ x ≡ 46 ∷ y → x ≡ y
undotted x y e = cc

same_part : (part other : InstancePart) → part.attribute ≡ other.attribute
    → part.value ≡ other.value → part ≡ other
same_part part other a v = ap (λ a. part_of a part.value) a ∙ ap (λ v. part_of other.attribute v) v

pub one_list : (parts others : List InstancePart) → AreValues parts → AreValues others
    → dotted parts ≡ dotted others → parts ≡ others
one_list [] [] good good' e = refl
one_list [] (other ∷ others) good good' e = cc
one_list (part ∷ parts) [] good good' e = cc
one_list (part ∷ parts) (other ∷ others) good good' e =
    let texts = sym (text_of-cons part parts)
    ∙ undotted (text_of (part ∷ parts)) (text_of (other ∷ others)) e
    ∙ text_of-cons other others in
    let (a, rest) = behind_label part.attribute other.attribute (part.value ++ dotted parts)
    (other.value ++ dotted others) texts in
    let (v, tails) = one_value part.value other.value (dotted others) (dotted parts) good.0 good'.0
    (dotted_ends others) (dotted_ends parts) rest in
    ap (λ part. part ∷ parts) (same_part part other a v)
    ∙ ap (λ parts. other ∷ parts) (one_list parts others good.1 good'.1 tails)

pub same_text : (parts others : List InstancePart) → AreParts 8 parts → AreParts 8 others
    → text_of parts ≡ text_of others → parts ≡ others
same_text [] others are are' e = absurd (omega (arith, are.some))
same_text (part ∷ parts) [] are are' e = absurd (omega (arith, are'.some))
same_text (part ∷ parts) (other ∷ others) are are' e =
    one_list (part ∷ parts) (other ∷ others) are.values are'.values (ap (λ text. 46 ∷ text) e)
