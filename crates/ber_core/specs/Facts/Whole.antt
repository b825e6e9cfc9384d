-- A tree is read exactly where it is spelled.
use Rattle.std.proofs.Common.{◌≡◌, ℕ, suc, ◌+◌, ◌-◌, ◌<◌, ◌≤◌, max, true, false, List, [], ◌++◌}
use Rattle.std.proofs.Common.{length, drop, nat_eq, ◌==◌, if◌then◌else◌, Result, Ok, Err, refl, sym}
use Rattle.std.proofs.Common.{◌∙◌, ap, eq-eqb, arith, length-append, append-nil}
use Rattle.std.specs.Cmp.Lexicographic.{pointwise, same_text}
use Rattle.std.proofs.lemmas.Bool.{eqb-true}
use Rattle.std.proofs.lemmas.Cmp.{nat_list_eq_equiv}
use Rattle.std.proofs.lemmas.List.{append_assoc, drop_at, length-take, nil_from_length}
use Rattle.ber_core.specs.declared.fault.BerFault.{BerFault}
use Rattle.ber_core.specs.declared.fault.BerFault.TheVariants.{BadContent, BadLength}
use Rattle.ber_core.specs.Length.{IsOctets}
use Rattle.ber_core.specs.Tree.{Tree, Trees, primitive, constructed, no_trees, tree_and}
use Rattle.ber_core.specs.Spelling.{IsElement, Spells, SpellsAll}
use Rattle.ber_core.specs.Parts.{length-parts}
use Rattle.ber_core.specs.View.{View, end_of, left}
use Rattle.ber_core.specs.Reading.{◌>>=◌, next_content, primitive_at, enter, leave, inside, behind}
use Rattle.ber_core.specs.Reading.{Stands}
use Rattle.ber_core.specs.Whole.{depth, depth_all, exactly, read_tree, read_trees}
use Rattle.ber_core.specs.Facts.Found.{next_content-Stands, Stands-next_content}
use Rattle.ber_core.specs.Facts.Moves.{left-drop, left-inside}

bind_ok : {A B : Type 0} (r : Result A BerFault) (f : A → Result B BerFault) (y : B)
    → (r >>= f) ≡ Ok y → (x : A) × (r ≡ Ok x) × (f x ≡ Ok y)
bind_ok (Ok x) f y e = (x, refl, e)
bind_ok (Err fault) f y e = cc

ok-injective : {A : Type 0} (x y : A) → ◌≡◌ {A = Result A BerFault} (Ok x) (Ok y) → x ≡ y
ok-injective x y e = cc

err-ok : {A : Type 0} (fault : BerFault) (x : A) → ◌≡◌ {A = Result A BerFault} (Err fault) (Ok x)
    → ⊥
err-ok fault x e = cc

exactly-ok : (expected : List ℕ) (place : ℕ) (content : List ℕ)
    → exactly expected place content ≡ Ok (tt {0}) → expected ≡ content
exactly-ok expected place content e =
    elim (pointwise nat_eq expected content) as (λ same. pointwise nat_eq expected content ≡ same
    → (if same then Ok (tt {0}) else Err (BadContent place)) ≡ Ok (tt {0}) → expected ≡ content)
    [ true ↦ λ yes h. same_text expected content (sym yes) | false ↦ λ no h. absurd (err-ok _ _ h) ]
    refl e

exactly-same : (place : ℕ) (content : List ℕ) → exactly content place content ≡ Ok (tt {0})
exactly-same place content = rw (nat_list_eq_equiv.refl content) refl

-- the place behind octets that stand next
pub left-passed : (view : View) (spelled rest : List ℕ) → left view ≡ spelled ++ rest
    → left (record view { place = view.place + length spelled }) ≡ rest
left-passed view spelled rest front =
    left-drop view.octets view.place (end_of view) (length spelled)
    (omega (
      arith,
      ap length front,
      length-append spelled rest,
      length-take (end_of view - view.place) (drop view.place view.octets),
    ))
    ∙ ap (drop (length spelled)) front ∙ drop_at spelled rest (length spelled) refl

-- what reading gives: the spelling that was passed, what follows it, and the depth within the limit
pub record Read (view new : View) (spells : List ℕ → Type 0) (levels : ℕ) : Type 0 where
  pub spelled : List ℕ
  pub rest : List ℕ
  pub is : spells spelled
  pub front : left view ≡ spelled ++ rest
  pub moved : new ≡ record view { place = view.place + length spelled }
  pub shallow : levels + length view.ends ≤ 16

primitive-found : (tag content : List ℕ) (view new : View) (start : ℕ) (found_content : List ℕ)
    → Stands view tag found_content start → content ≡ found_content
    → new ≡ behind view start found_content → Read view new (IsElement tag content) 1
primitive-found tag content view new start found_content found same moved = record {
  spelled = found.spelled;
  rest = found.rest;
  is = rw same found.is_element;
  front = found.before_end;
  moved = moved ∙ ap (λ place. record view { place = place }) found.begins;
  shallow = omega (arith, found.shallow);
}

primitive-ok : (tag content : List ℕ) (view new : View) → IsOctets view.octets
    → read_tree (primitive tag content) view ≡ Ok new → Read view new (IsElement tag content) 1
unfolding read_tree
primitive-ok tag content view new octets e =
    let read = bind_ok (primitive_at (exactly content) view tag) (λ read. Ok read.1) new e in
    let found = bind_ok (next_content view tag)
    (λ found. exactly content found.0 found.1 >>= λ value.
    Ok (value, behind view found.0 found.1)) read.0 read.1 in
    let judged = bind_ok (exactly content found.0.0 found.0.1)
    (λ value. Ok (value, behind view found.0.0 found.0.1)) read.0 found.2 in
    let pairs : ◌≡◌ {A = Unit {0} × View} (judged.0, behind view found.0.0 found.0.1) read.0 =
    ok-injective _ _ judged.2 in
    primitive-found tag content view new found.0.0 found.0.1
    (next_content-Stands view tag found.0.1 found.0.0 octets found.1)
    (exactly-ok content found.0.0 found.0.1 judged.1)
    (sym (ok-injective _ _ read.2) ∙ sym (ap (λ pair. pair.1) pairs))

leave-ok : (view : View) (left_view : Unit {0} × View) → leave view ≡ Ok left_view
    → (view.place ≡ end_of view) × (left_view.1 ≡ record view { ends = drop 1 view.ends })
leave-ok view left_view e =
    elim (view.place == end_of view) as (λ at_end. (view.place == end_of view) ≡ at_end
    → (if at_end then Ok (tt, record view { ends = drop 1 view.ends })
    else Err (BadLength view.place)) ≡ Ok left_view
    → (view.place ≡ end_of view) × (left_view.1 ≡ record view { ends = drop 1 view.ends })) [
      | true ↦ λ yes h. (
        eqb-true view.place (end_of view) yes,
        sym (ap (λ pair. pair.1) (ok-injective _ _ h)),
      )
      | false ↦ λ no h. absurd (err-ok _ _ h)
    ] refl e

constructed-found : (tag : List ℕ) (members : Trees) (view new : View) (start : ℕ)
    (content : List ℕ) → Stands view tag content start
    → (after : View) → Read (inside view start content) after (SpellsAll members)
    (depth_all members) → after.place ≡ end_of after
    → new ≡ record after { ends = drop 1 after.ends }
    → Read view new (λ spelled. Spells (constructed tag members) spelled) (suc (depth_all members))
constructed-found tag members view new start content found after read at_end left_it =
    let at : start + length read.spelled ≡ start + length content =
    sym (ap (λ v. v.place) read.moved) ∙ at_end ∙ ap end_of read.moved in
    let whole : content ≡ read.spelled ++ read.rest = sym (left-inside view tag content start found)
    ∙ read.front in
    let no_rest : read.rest ≡ [] = nil_from_length read.rest
    (omega (arith, ap length whole, length-append read.spelled read.rest, at)) in
    let same : content ≡ read.spelled = whole ∙ ap (λ rest. read.spelled ++ rest) no_rest
    ∙ append-nil read.spelled in
    record {
      spelled = found.spelled;
      rest = found.rest;
      is = (content, rw same read.is, found.is_element);
      front = found.before_end;
      moved = left_it ∙ ap (λ (v : View). record v { ends = drop 1 v.ends }) read.moved
          ∙ ap (λ place. record view { place = place }) (at ∙ found.begins);
      shallow = omega (arith, read.shallow);
    }

trees-found : (t : Tree) (ts : Trees) (view after new : View) → Read view after (Spells t) (depth t)
    → Read (record view { place = after.place }) new (SpellsAll ts) (depth_all ts)
    → Read view new (SpellsAll (tree_and t ts)) (max (depth t) (depth_all ts))
trees-found t ts view after new first others =
    let place : after.place ≡ view.place + length first.spelled = ap (λ v. v.place) first.moved in
    let behind_first : first.rest ≡ others.spelled ++ others.rest =
    sym (left-passed view first.spelled first.rest first.front)
    ∙ ap (λ place. left (record view { place = place })) (sym place) ∙ others.front in
    record {
      spelled = first.spelled ++ others.spelled;
      rest = others.rest;
      is = (first.spelled, others.spelled, first.is, others.is, refl);
      front = first.front ∙ ap (λ rest. first.spelled ++ rest) behind_first
          ∙ sym (append_assoc first.spelled others.spelled others.rest);
      moved = others.moved ∙ ap (λ place. record view { place = place })
          (omega (arith, place, length-append first.spelled others.spelled));
      shallow = omega (arith, first.shallow, others.shallow);
    }

mutual
  unfolding read_tree depth

  pub read_tree-ok : (t : Tree) (view new : View) → IsOctets view.octets → read_tree t view ≡ Ok new
      → Read view new (Spells t) (depth t)
  read_tree-ok (primitive tag content) view new octets e =
      primitive-ok tag content view new octets e
  read_tree-ok (constructed tag members) view new octets e =
      let entered = bind_ok (enter view tag) (λ entered. read_trees members entered.1 >>= λ behind.
      leave behind >>= λ left. Ok left.1) new e in
      let read = bind_ok (read_trees members entered.0.1)
      (λ behind. leave behind >>= λ left. Ok left.1) new entered.2 in
      let left_it = bind_ok (leave read.0) (λ left. Ok left.1) new read.2 in
      let found = bind_ok (next_content view tag) (λ found. Ok (tt, inside view found.0 found.1))
      entered.0 entered.1 in
      let is_inside : inside view found.0.0 found.0.1 ≡ entered.0.1 =
      ap (λ pair. pair.1) (ok-injective _ _ found.2) in
      let members_read : read_trees members (inside view found.0.0 found.0.1) ≡ Ok read.0 =
      ap (read_trees members) is_inside ∙ read.1 in
      let stands = next_content-Stands view tag found.0.1 found.0.0 octets found.1 in
      let leaving = leave-ok read.0 left_it.0 left_it.1 in
      constructed-found tag members view new found.0.0 found.0.1 stands read.0
      (read_trees-ok members (inside view found.0.0 found.0.1) read.0 octets
      (omega (arith, stands.shallow)) members_read)
      leaving.0 (sym (ok-injective _ _ left_it.2) ∙ leaving.1)

  pub read_trees-ok : (ts : Trees) (view new : View) → IsOctets view.octets → length view.ends ≤ 16
      → read_trees ts view ≡ Ok new → Read view new (SpellsAll ts) (depth_all ts)
  read_trees-ok no_trees view new octets shallow e = record {
    spelled = [];
    rest = left view;
    is = refl;
    front = refl;
    moved = sym (ok-injective _ _ e) ∙ ap (λ place. record view { place = place }) (omega arith);
    shallow = omega arith;
  }
  read_trees-ok (tree_and t ts) view new octets shallow e =
      let first = bind_ok (read_tree t view) (λ behind. read_trees ts behind) new e in
      let first_read = read_tree-ok t view first.0 octets first.1 in
      let same : first.0 ≡ record view { place = first.0.place } = first_read.moved
      ∙ ap (λ place. record view { place = place }) (sym (ap (λ v. v.place) first_read.moved))
      in
      trees-found t ts view first.0 new first_read
      (read_trees-ok ts (record view { place = first.0.place }) new octets shallow
      (ap (read_trees ts) (sym same) ∙ first.2))

content_ends : (view : View) (tag content spelled : List ℕ) → IsElement tag content spelled
    → view.place + length spelled - length content + length content ≡ view.place + length spelled
content_ends view tag content spelled element =
    omega (arith, ap length element.2, length-parts tag element.0 content)

pub standing : (view : View) (tag content spelled rest : List ℕ) → IsElement tag content spelled
    → left view ≡ spelled ++ rest → length view.ends < 16
    → Stands view tag content (view.place + length spelled - length content)
standing view tag content spelled rest element front shallow = record {
  spelled = spelled;
  rest = rest;
  is_element = element;
  before_end = front;
  begins = content_ends view tag content spelled element;
  shallow = shallow;
}

left_at_end : (view : View) → view.place ≡ end_of view
    → leave view ≡ Ok (tt, record view { ends = drop 1 view.ends })
left_at_end view e = rw (eq-eqb view.place (end_of view) e) refl

mutual
  unfolding read_tree depth

  pub read_tree-at : (t : Tree) (view new : View) (spelled rest : List ℕ) → Spells t spelled
      → left view ≡ spelled ++ rest → new ≡ record view { place = view.place + length spelled }
      → depth t + length view.ends ≤ 16 → read_tree t view ≡ Ok new
  read_tree-at (primitive tag content) view new spelled rest spells front moved shallow =
      let stands = standing view tag content spelled rest spells front (omega arith) in
      let start : ℕ = view.place + length spelled - length content in
      rw (Stands-next_content view tag content start stands, exactly-same start content)
      (ap Ok (ap (λ place. record view { place = place })
      (content_ends view tag content spelled spells) ∙ sym moved))
  read_tree-at (constructed tag members) view new spelled rest (
    content,
    all,
    element,
  ) front moved shallow =
      let stands = standing view tag content spelled rest element front (omega arith) in
      let start : ℕ = view.place + length spelled - length content in
      let members_read : read_trees members (inside view start content)
      ≡ Ok (record (inside view start content) { place = start + length content })
      = read_trees-at members (inside view start content)
      (record (inside view start content) { place = start + length content }) content []
      all (left-inside view tag content start stands
      ∙ sym (append-nil content)) refl (omega arith) in
      rw (
        Stands-next_content view tag content start stands,
        members_read,
        left_at_end (record (inside view start content) { place = start + length content }) refl,
      )
      (ap Ok (ap (λ place. record view { place = place })
      (content_ends view tag content spelled element) ∙ sym moved))

  pub read_trees-at : (ts : Trees) (view new : View) (spelled rest : List ℕ) → SpellsAll ts spelled
      → left view ≡ spelled ++ rest → new ≡ record view { place = view.place + length spelled }
      → depth_all ts + length view.ends ≤ 16 → read_trees ts view ≡ Ok new
  read_trees-at no_trees view new spelled rest all front moved shallow =
      ap Ok (ap (λ place. record view { place = place }) (omega (arith, ap length all)) ∙ sym moved)
  read_trees-at (tree_and t ts) view new spelled rest (
    first,
    others,
    spells,
    all,
    is,
  ) front moved shallow =
      let joined : left view ≡ first ++ (others ++ rest) = front ∙ ap (λ octets. octets ++ rest) is
      ∙ append_assoc first others rest in
      rw (read_tree-at t view (record view { place = view.place + length first }) first
      (others ++ rest) spells joined refl (omega arith))
      (read_trees-at ts (record view { place = view.place + length first }) new others rest all
      (left-passed view first (others ++ rest) joined)
      (moved ∙ ap (λ place. record view { place = place })
      (omega (arith, ap length is, length-append first others))) (omega arith))
