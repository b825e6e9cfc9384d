-- What reading an element went through.
use Rattle.std.proofs.Common.{◌≡◌, ℕ, List, nat_eq, ◌==◌, drop, Result, Ok, refl, sym, ◌∙◌, ap}
use Rattle.std.specs.Cmp.Lexicographic.{pointwise, same_text}
use Rattle.std.proofs.lemmas.Bool.{eqb-true}
use Rattle.std.proofs.lemmas.Cmp.{nat_list_eq_equiv}
use Rattle.ber_core.specs.declared.fault.BerFault.{BerFault}
use Rattle.ber_core.specs.declared.fault.BerFault.TheVariants.{BadContent, BadLength}
use Rattle.ber_core.specs.Tree.{Trees, primitive, constructed}
use Rattle.ber_core.specs.View.{View, end_of}
use Rattle.ber_core.specs.Reading.{◌>>=◌, next_content, primitive_at, enter, leave, inside, behind}
use Rattle.ber_core.specs.Whole.{exactly, read_tree, read_trees}
use Rattle.ber_shape.specs.Results.{bind_ok, ok_is, tested}

-- an element, with what stands in it
abbrev pub within_at : {X : Type 0} → List ℕ → (View → Result (X × View) BerFault) → View
    → Result (X × View) BerFault
within_at tag members view = do
  entered ← enter view tag
  read ← members entered.1
  behind ← leave read.1
  Ok (read.0, behind.1)

-- a primitive element that was read
pub record Primitive {X : Type 0} (judge : ℕ → List ℕ
    → Result X BerFault) (view new : View) (tag : List ℕ) (x : X) : Type 0 where
  pub start : ℕ
  pub content : List ℕ
  pub found : next_content view tag ≡ Ok (start, content)
  pub judged : judge start content ≡ Ok x
  pub is_tree : read_tree (primitive tag content) view ≡ Ok new

exactly_same : (place : ℕ) (content : List ℕ) → exactly content place content ≡ Ok (tt {0})
exactly_same place content = rw (nat_list_eq_equiv.refl content) refl

primitive_tree : (view new : View) (tag content : List ℕ) (start : ℕ)
    → next_content view tag ≡ Ok (start, content) → behind view start content ≡ new
    → read_tree (primitive tag content) view ≡ Ok new
unfolding read_tree
primitive_tree view new tag content start found moved =
    rw (found, exactly_same start content) (ap (λ place. Ok place) moved)

pub primitive_ok : {X : Type 0} (judge : ℕ → List ℕ
    → Result X BerFault) (view new : View) (tag : List ℕ) (x : X)
    → primitive_at judge view tag ≡ Ok (x, new)
    → Primitive judge view new tag x
primitive_ok judge view new tag x e =
    let found = bind_ok (next_content view tag)
    (λ found. judge found.0 found.1 >>= λ value. Ok (value, behind view found.0 found.1)) (
      x,
      new,
    ) e in
    let judged = bind_ok (judge found.0.0 found.0.1)
    (λ value. Ok (value, behind view found.0.0 found.0.1)) (x, new) found.2 in
    let pairs = ok_is (judged.0, behind view found.0.0 found.0.1) (x, new) judged.2 in
    record {
      start = found.0.0;
      content = found.0.1;
      found = found.1;
      judged = judged.1 ∙ ap (λ value. Ok value) (ap (λ p. p.0) pairs);
      is_tree = primitive_tree view new tag found.0.1 found.0.0 found.1 (ap (λ p. p.1) pairs);
    }

-- where the tree is read, its content is found
pub content_found : (view new : View) (tag content : List ℕ)
    → read_tree (primitive tag content) view ≡ Ok new
    → (start : ℕ) × (next_content view tag ≡ Ok (start, content))
    × (behind view start content ≡ new)
unfolding read_tree
content_found view new tag content e =
    let read = bind_ok (primitive_at (exactly content) view tag) (λ read. Ok read.1) new e in
    let found = bind_ok (next_content view tag)
    (λ found. exactly content found.0 found.1 >>= λ value.
    Ok (value, behind view found.0 found.1)) read.0 read.1 in
    let judged = bind_ok (exactly content found.0.0 found.0.1)
    (λ value. Ok (value, behind view found.0.0 found.0.1)) read.0 found.2 in
    let same : content ≡ found.0.1 = same_text content found.0.1
    (sym (tested (pointwise nat_eq content found.0.1) (tt {0}) (tt {0}) (BadContent found.0.0)
    judged.1).0) in
    let pairs = ok_is (judged.0, behind view found.0.0 found.0.1) read.0 judged.2 in (
      found.0.0,
      found.1 ∙ ap (λ octets. Ok (found.0.0, octets)) (sym same),
      ap (behind view found.0.0) same ∙ ap (λ p. p.1) pairs ∙ ok_is read.0.1 new read.2,
    )

pub primitive_again : {X : Type 0} (judge : ℕ → List ℕ
    → Result X BerFault) (view new : View) (tag content : List ℕ) (x : X)
    → read_tree (primitive tag content) view ≡ Ok new
    → ((place : ℕ) → judge place content ≡ Ok x) → primitive_at judge view tag ≡ Ok (x, new)
primitive_again judge view new tag content x e judged =
    let found = content_found view new tag content e in
    rw (found.1, judged found.0) (ap (λ place. Ok (x, place)) found.2)

-- an element that was entered and left
pub record Entered (view new inner after : View) (tag : List ℕ) : Type 0 where
  pub entered : enter view tag ≡ Ok (tt, inner)
  pub octets : inner.octets ≡ view.octets
  pub at_end : after.place ≡ end_of after
  pub left_it : leave after ≡ Ok (tt, new)

pub entered_is : (view : View) (tag : List ℕ) (entered : Unit {0} × View)
    → enter view tag ≡ Ok entered → entered.1.octets ≡ view.octets
entered_is view tag entered e =
    let found = bind_ok (next_content view tag) (λ found. Ok (tt {0}, inside view found.0 found.1))
    entered e in
    sym (ap (λ p. p.1.octets) (ok_is (tt {0}, inside view found.0.0 found.0.1) entered found.2))

pub left_at_end : (view : View) (behind : Unit {0} × View) → leave view ≡ Ok behind
    → view.place ≡ end_of view
left_at_end view behind e = eqb-true view.place (end_of view)
    (tested (view.place == end_of view) (tt, record view { ends = drop 1 view.ends }) behind
    (BadLength view.place) e).0

pub within_ok : {X : Type 0} (members : View → Result (X × View) BerFault) (view new : View)
    (tag : List ℕ) (x : X) → within_at tag members view ≡ Ok (x, new)
    → (inner after : View) × (members inner ≡ Ok (x, after)) × Entered view new inner after tag
within_ok members view new tag x e =
    let entered = bind_ok (enter view tag) (λ entered. members entered.1 >>= λ read.
    leave read.1 >>= λ behind. Ok (read.0, behind.1)) (x, new) e in
    let read = bind_ok (members entered.0.1) (λ read. leave read.1 >>= λ behind.
    Ok (read.0, behind.1)) (x, new) entered.2 in
    let left_it = bind_ok (leave read.0.1) (λ behind. Ok (read.0.0, behind.1)) (x, new) read.2 in
    let pairs = ok_is (read.0.0, left_it.0.1) (x, new) left_it.2 in (
      entered.0.1,
      read.0.1,
      read.1 ∙ ap (λ value. Ok (value, read.0.1)) (ap (λ p. p.0) pairs),
      record {
        entered = entered.1;
        octets = entered_is view tag entered.0 entered.1;
        at_end = left_at_end read.0.1 left_it.0 left_it.1;
        left_it = left_it.1 ∙ ap (λ place. Ok (tt, place)) (ap (λ p. p.1) pairs);
      },
    )

pub within_again : {X : Type 0} (members : View
    → Result (X × View) BerFault) (view new inner after : View) (tag : List ℕ) (x : X)
    → Entered view new inner after tag
    → members inner ≡ Ok (x, after) → within_at tag members view ≡ Ok (x, new)
within_again members view new inner after tag x around read =
    rw (around.entered, read, around.left_it) refl

pub tree_ok : (ts : Trees) (view new : View) (tag : List ℕ)
    → read_tree (constructed tag ts) view ≡ Ok new
    → (inner after : View) × (read_trees ts inner ≡ Ok after) × Entered view new inner after tag
unfolding read_tree
tree_ok ts view new tag e =
    let entered = bind_ok (enter view tag) (λ entered. read_trees ts entered.1 >>= λ behind.
    leave behind >>= λ left. Ok left.1) new e in
    let read = bind_ok (read_trees ts entered.0.1) (λ behind. leave behind >>= λ left. Ok left.1)
    new entered.2 in
    let left_it = bind_ok (leave read.0) (λ left. Ok left.1) new read.2 in (
      entered.0.1,
      read.0,
      read.1,
      record {
        entered = entered.1;
        octets = entered_is view tag entered.0 entered.1;
        at_end = left_at_end read.0 left_it.0 left_it.1;
        left_it = left_it.1 ∙ ap (λ place. Ok (tt, place)) (ok_is left_it.0.1 new left_it.2);
      },
    )

pub tree_again : (ts : Trees) (view new inner after : View) (tag : List ℕ)
    → Entered view new inner after tag → read_trees ts inner ≡ Ok after
    → read_tree (constructed tag ts) view ≡ Ok new
unfolding read_tree
tree_again ts view new inner after tag around read = rw (around.entered, read, around.left_it) refl
