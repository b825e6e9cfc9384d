-- Reading an identifier's text part by part.
use Rattle.std.proofs.Common.{◌≡◌, ◌≢◌, ℕ, suc, ◌+◌, ◌-◌, ◌≤◌, ◌<◌, ◌⊎◌, inl, inr, Bool, true}
use Rattle.std.proofs.Common.{false, nat_eq, List, [], ◌∷◌, ◌++◌, length, take, drop, refl, sym}
use Rattle.std.proofs.Common.{◌∙◌, ap, subst, append_assoc, append-nil, arith, length-append}
use Rattle.std.specs.List.{prefix_len}
use Rattle.std.proofs.lemmas.List.{length-take, take-append-drop}
use Rattle.std.proofs.lemmas.List.Sums.{common_prefix_len-le, prefix_len-le-length}
use Rattle.sle_common.specs.declared.instance_id.InstancePart.{InstancePart}
use Rattle.sle_common.specs.declared.attribute.Attribute.{Attribute}
use Rattle.sle_common.specs.declared.attribute.Attribute.TheVariants.{Sagr}
use Rattle.sle_common.specs.Attribute.{label_of}
use Rattle.sle_common.specs.Identifier.{is_value_octet, is_value, AreParts, IsIdentifier}
use Rattle.sle_common.specs.IdentifierText.{text_of, IsPartsText, IsIdentifierText}
use Rattle.sle_common.specs.Front.{Begins, IsRefusedAt}
use Rattle.sle_common.specs.TextParts.{shared, IsLongestLabel, begins_with_value_octet, ReadsPart}
use Rattle.sle_common.specs.TextParts.{RefusesPart}
use Rattle.sle_common.proofs.Fronts.{refused_as, refused_behind, refused_end, refused_at}
use Rattle.sle_common.proofs.Labels.{shared_whole, shared_at_least, take-shared}
use Rattle.sle_common.proofs.Values.{AreOctets, value_is, is_value_so, prefix_octets, prefix_ended}
use Rattle.sle_common.proofs.Texts.{Values, AreValues, part_of, front_of, label_gone, label_put}
use Rattle.sle_common.proofs.Texts.{values_next, front_gone, front_put, text_of-last, front_of-last}

-- ---- one part

-- a value with which a text ends
abbrev some_value : List ℕ
some_value = 65 ∷ []

ended_value : (most : ℕ) (value : List ℕ) → is_value value ≡ true → Values most value
ended_value most value good = record {
  value = value;
  tail = [];
  good = good;
  behind = inl refl;
  is = sym (append-nil value);
}

label_text : (most : ℕ) (attribute : Attribute)
    → IsPartsText (suc most) (label_of attribute ++ some_value)
label_text most attribute = label_put most attribute some_value (ended_value most some_value refl)

first_label_of : (part : InstancePart) (parts : List InstancePart)
    → (rest : List ℕ) × (text_of (part ∷ parts) ≡ label_of part.attribute ++ rest)
first_label_of part [] = (part.value, refl)
first_label_of part (next ∷ parts) = (
  part.value ++ (46 ∷ text_of (next ∷ parts)),
  append_assoc (label_of part.attribute) part.value (46 ∷ text_of (next ∷ parts)),
)

-- no label stands at the front
pub label_refused : (text : List ℕ) (n : ℕ) → IsLongestLabel text n → RefusesPart text n
label_refused text n longest most = record {
  no_text = λ (parts, are, e). none_such parts are e;
  front = record {
    within = within longest.reached;
    begins = begins longest.reached;
    longest = upto;
  };
}
  where
    within : (n ≡ 0) ⊎ ((a : Attribute) × (n ≡ shared a text)) → n ≤ length text
    within (inl none) = omega (arith, none)
    within (inr (a, is)) = omega (arith, is, (common_prefix_len-le nat_eq (label_of a) text).1)

    -- the attribute with whose label a text begins
    alike : (m : ℕ) (more : List ℕ) → m ≤ length text → IsPartsText (suc most) (take m text ++ more)
        → m ≤ n
    alike m more here ([], are, e) = absurd (omega (arith, are.some))
    alike m more here (part ∷ parts, are, e) =
        let (rest, is) = first_label_of part parts in
        elim (shared_at_least (label_of part.attribute) rest text more m here (sym is ∙ sym e)) [
          | inl shares ↦ omega (arith, shares, longest.longest part.attribute)
          | inr whole ↦ absurd (omega (arith, whole, longest.none part.attribute))
        ]

    upto : (m : ℕ) → m ≤ length text → Begins (IsPartsText (suc most)) (take m text) → m ≤ n
    upto m here (more, is) = alike m more here is

    begins : (n ≡ 0) ⊎ ((a : Attribute) × (n ≡ shared a text))
        → Begins (IsPartsText (suc most)) (take n text)
    begins (inl none) = (
      label_of Sagr ++ some_value,
      subst (λ n. IsPartsText (suc most) (take n text ++ (label_of Sagr ++ some_value)))
          (sym none) (label_text most Sagr),
    )
    begins (inr (a, is)) =
        let n = shared a text in
        let front : take n text ++ (drop n (label_of a) ++ some_value) ≡ label_of a ++ some_value =
        ap (λ front. front ++ (drop n (label_of a) ++ some_value)) (take-shared (label_of a) text)
        ∙ sym (append_assoc (take n (label_of a)) (drop n (label_of a)) some_value)
        ∙ ap (λ label. label ++ some_value) (take-append-drop n (label_of a)) in (
          drop n (label_of a) ++ some_value,
          subst (λ n'. IsPartsText (suc most)
              (take n' text ++ (drop n (label_of a) ++ some_value))) (sym is)
              (subst (IsPartsText (suc most)) (sym front) (label_text most a)),
        )

    none_such : (parts : List InstancePart) → AreParts (suc most) parts → text ≡ text_of parts → ⊥
    none_such [] are e = omega (arith, are.some)
    none_such (part ∷ parts) are e =
        let (rest, is) = first_label_of part parts in
        let whole : shared part.attribute text ≡ length (label_of part.attribute) =
        ap (λ text. shared part.attribute text) (e ∙ is)
        ∙ shared_whole (label_of part.attribute) rest in
        omega (arith, whole, longest.none part.attribute)

value_some : (value tail : List ℕ) → is_value value ≡ true → [] ≡ value ++ tail → ⊥
value_some value tail good e = let is = value_is value good in
    omega (arith, is.some, ap length e, length-append value tail)

none_counted : (octet : ℕ) (rest : List ℕ) → is_value_octet octet ≡ true
    → prefix_len is_value_octet (take 256 (octet ∷ rest)) ≡ 0 → ⊥
none_counted octet rest is none =
    let counted : 1 + prefix_len is_value_octet (take 255 rest) ≡ 0 = rw is at none in
    omega (arith, counted)

not_empty : is_value [] ≡ true → ⊥
not_empty e = cc

no_value : (most : ℕ) (behind : List ℕ) → prefix_len is_value_octet (take 256 behind) ≡ 0
    → IsRefusedAt (Values most) behind 0
no_value most [] none = refused_end (Values most)
    (λ values. value_some values.value values.tail values.good values.is) (
      some_value,
      ended_value most some_value refl,
    )
no_value most (octet ∷ rest) none = refused_at (Values most) octet rest no_text (
  some_value,
  ended_value most some_value refl,
)
  where
    no_text : (t : List ℕ) → Values most (octet ∷ t) → ⊥
    no_text t values = elim (values_next most [] octet t refl values)
        [ inl next ↦ not_empty next.2 | inr more ↦ none_counted octet rest more.0 none ]

-- behind a label
behind_label : (most : ℕ) (attribute : Attribute) (text behind : List ℕ) (n at : ℕ)
    → text ≡ label_of attribute ++ behind → at ≡ length (label_of attribute) + n
    → IsRefusedAt (Values most) behind n
    → IsRefusedAt (IsPartsText (suc most)) text at
behind_label most attribute text behind n at is place refused =
    let L = λ (t : List ℕ). IsPartsText (suc most) (label_of attribute ++ t) in
    let here = refused_behind (IsPartsText (suc most)) (label_of attribute) behind n
    (refused_as L (Values most) (label_gone most attribute) (label_put most attribute) behind n
    refused) in
    subst (λ text. IsRefusedAt (IsPartsText (suc most)) text at) (sym is)
    (subst (IsRefusedAt (IsPartsText (suc most)) (label_of attribute ++ behind)) (sym place)
    here)

-- no octet of a value stands behind the label
pub value_refused : (text behind : List ℕ) (attribute : Attribute) (n : ℕ)
    → text ≡ label_of attribute ++ behind → prefix_len is_value_octet (take 256 behind) ≡ 0
    → n ≡ length text - length behind
    → RefusesPart text n
value_refused text behind attribute n is none place most =
    behind_label most attribute text behind 0 n is
    (omega (arith, place, ap length is, length-append (label_of attribute) behind))
    (no_value most behind none)

-- a label with so many octets of a value behind it
pub part_read : (text behind : List ℕ) (attribute : Attribute) (size : ℕ)
    → text ≡ label_of attribute ++ behind → size ≡ prefix_len is_value_octet (take 256 behind)
    → 0 < size
    → ReadsPart text attribute (take size behind) (drop size behind)
part_read text behind attribute size is counted some =
    let few : size ≤ 256 = omega (
      arith,
      counted,
      prefix_len-le-length is_value_octet (take 256 behind),
      length-take 256 behind,
    ) in
    let here : size ≤ length behind = omega (
      arith,
      counted,
      prefix_len-le-length is_value_octet (take 256 behind),
      length-take 256 behind,
    ) in
    let long : length (take size behind) ≡ size = omega (arith, length-take size behind) in
    let all : AreOctets (take size behind) = subst (λ n. AreOctets (take n behind)) (sym counted)
    (prefix_octets 256 behind) in
    record {
      is = is ∙ ap (λ behind. label_of attribute ++ behind) (sym (take-append-drop size behind));
      good = is_value_so (take size behind) (record {
        some = omega (arith, long);
        few = omega (arith, long);
        octets = all;
      });
      ended = elim (prefix_ended 256 behind) [
        | inl ends ↦ inl (subst (λ n. begins_with_value_octet (drop n behind) ≡ false) (sym counted)
            ends)
        | inr reached ↦ inr (omega (arith, reached, counted, long))
      ];
    }

-- ---- part by part

-- what was read, and what is left
pub record IsStage (text rest : List ℕ) (parts : List InstancePart) : Type 0 where
  pub few : length parts < 8
  pub values : AreValues parts
  pub is : text ≡ front_of parts ++ rest

pub stage_begins : (text : List ℕ) → IsStage text text []
stage_begins text = record { few = omega arith; values = tt; is = refl }

behind_front : (text rest : List ℕ) (parts : List InstancePart) (most n at : ℕ)
    → IsStage text rest parts → 8 ≡ length parts + most → at + length rest ≡ length text + n
    → IsRefusedAt (IsPartsText most) rest n
    → IsRefusedAt IsIdentifierText text at
behind_front text rest parts most n at stage limit place refused =
    let L = λ (t : List ℕ). IsPartsText 8 (front_of parts ++ t) in
    let here = refused_behind (IsPartsText 8) (front_of parts) rest n
    (refused_as L (IsPartsText most) (λ t. front_gone parts most 8 t limit stage.values)
    (λ t. front_put parts most 8 t limit stage.values) rest n refused) in
    let there : length (front_of parts) + n ≡ at =
    omega (arith, place, ap length stage.is, length-append (front_of parts) rest) in
    subst (λ text. IsRefusedAt (IsPartsText 8) text at) (sym stage.is)
    (subst (IsRefusedAt (IsPartsText 8) (front_of parts ++ rest)) there here)

pub stage_refused : (text rest : List ℕ) (parts : List InstancePart) (n at : ℕ)
    → IsStage text rest parts → RefusesPart rest n → at ≡ length text - (length rest - n)
    → IsRefusedAt IsIdentifierText text at
stage_refused text rest parts n at stage refused place =
    behind_front text rest parts (suc (7 - length parts)) n at stage (omega (arith, stage.few))
    (omega (
      arith,
      place,
      (refused 0).front.within,
      ap length stage.is,
      length-append (front_of parts) rest,
    )) (refused (7 - length parts))

ended_so : (most : ℕ) (value : List ℕ) (octet : ℕ) (t : List ℕ)
    → (is_value_octet octet ≡ false) ⊎ (256 ≤ length value) → (octet ≡ 46 → most ≡ 0)
    → is_value value ≡ true → Values most (value ++ octet ∷ t) → ⊥
ended_so most value octet t ended last good values =
    by_next (values_next most value octet t (value_is value good).octets values) ended
  where
    contradicted : (b : Bool) → b ≡ true → b ≡ false → ⊥
    contradicted b is other = cc

    by_next : ((octet ≡ 46) × IsPartsText most t × (is_value value ≡ true))
        ⊎ ((is_value_octet octet ≡ true) × (length value < 256))
        → (is_value_octet octet ≡ false) ⊎ (256 ≤ length value) → ⊥
    by_next (inl next) ended = let none = last next.0 in let (parts, are, is) = next.1 in
        omega (arith, none, are.some, are.few)
    by_next (inr more) (inl ends) = contradicted (is_value_octet octet) more.0 ends
    by_next (inr more) (inr reached) = omega (arith, more.1, reached)

-- neither a dot nor another octet of the value, or a dot behind the eighth part
pub stage_ends : (text rest behind value more : List ℕ) (octet : ℕ) (parts : List InstancePart)
    (attribute : Attribute) (at : ℕ) → IsStage text rest parts
    → ReadsPart rest attribute value behind → behind ≡ octet ∷ more
    → (octet ≢ 46) ⊎ (length parts ≡ 7) → at ≡ length text - length behind
    → IsRefusedAt IsIdentifierText text at
stage_ends text rest behind value more octet parts attribute at stage reads is last place =
    let reads = subst (ReadsPart rest attribute value) is reads in
    let place : at ≡ length text - length (octet ∷ more) = omega (arith, place, ap length is) in
    let most = 7 - length parts in
    let value_ends : IsRefusedAt (λ t. Values most (value ++ t)) (octet ∷ more) 0 =
    refused_at (λ t. Values most (value ++ t)) octet more
    (λ t values. ended_so most value octet t reads.ended (last_so last) reads.good values)
    ([], ended_value most (value ++ []) (ap is_value (append-nil value) ∙ reads.good)) in
    let refused = behind_label most attribute rest (value ++ octet ∷ more) (length value + 0)
    (length (label_of attribute) + length value) reads.is (omega arith)
    (refused_behind (Values most) value (octet ∷ more) 0 value_ends) in
    behind_front text rest parts (suc most) (length (label_of attribute) + length value) at stage
    (omega (arith, stage.few))
    (omega (
      arith,
      place,
      ap length stage.is,
      length-append (front_of parts) rest,
      ap length reads.is,
      length-append (label_of attribute) (value ++ octet ∷ more),
      length-append value (octet ∷ more),
    )) refused
  where
    last_so : (octet ≢ 46) ⊎ (length parts ≡ 7) → octet ≡ 46 → 7 - length parts ≡ 0
    last_so (inl other) dot = absurd (other dot)
    last_so (inr full) dot = omega (arith, full)

values_more : (parts : List InstancePart) (part : InstancePart) → AreValues parts
    → is_value part.value ≡ true → AreValues (parts ++ part ∷ [])
values_more [] part values good = (good, tt)
values_more (first ∷ parts) part values good = (values.0, values_more parts part values.1 good)

-- behind a dot
pub stage_goes_on : (text rest behind value more : List ℕ) (octet : ℕ) (parts : List InstancePart)
    (attribute : Attribute) → IsStage text rest parts → ReadsPart rest attribute value behind
    → behind ≡ octet ∷ more → octet ≡ 46
    → length parts < 7 → IsStage text more (parts ++ part_of attribute value ∷ [])
stage_goes_on text rest behind value more octet parts attribute stage reads begins dot few =
    record {
      few = omega (arith, few, length-append parts (part_of attribute value ∷ []));
      values = values_more parts (part_of attribute value) stage.values reads.good;
      is = stage.is ∙ ap (λ rest. front_of parts ++ rest) (reads.is
          ∙ ap (λ behind. label_of attribute ++ (value ++ behind)) begins
          ∙ ap (λ octet. label_of attribute ++ (value ++ octet ∷ more)) dot)
          ∙ sym (ap (λ front. front ++ more) (front_of-last parts (part_of attribute value))
          ∙ regroup (front_of parts) (label_of attribute) value more);
    }
  where
    regroup : (f l v m : List ℕ) → (f ++ (l ++ (v ++ (46 ∷ [])))) ++ m ≡ f ++ (l ++ (v ++ 46 ∷ m))
    regroup f l v m = simp append_assoc

-- at the end
pub stage_done : (text rest behind value : List ℕ) (parts : List InstancePart)
    (attribute : Attribute) → IsStage text rest parts → ReadsPart rest attribute value behind
    → behind ≡ []
    → IsIdentifier (parts ++ part_of attribute value ∷ [])
    × (text ≡ text_of (parts ++ part_of attribute value ∷ []))
stage_done text rest behind value parts attribute stage reads none = (
  record {
    some = omega (arith, length-append parts (part_of attribute value ∷ []));
    few = omega (arith, stage.few, length-append parts (part_of attribute value ∷ []));
    values = values_more parts (part_of attribute value) stage.values reads.good;
  },
  stage.is ∙ ap (λ rest. front_of parts ++ rest) (reads.is
      ∙ ap (λ behind. label_of attribute ++ behind) (ap (λ behind. value ++ behind) none
      ∙ append-nil value))
      ∙ sym (text_of-last parts (part_of attribute value)),
)
