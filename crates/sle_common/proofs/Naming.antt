-- Comparing the parts that octets spell with those of an identifier, one after the other.
use Rattle.std.proofs.Common.{◌≡◌, ◌≢◌, ℕ, zero, suc, ◌+◌, ◌-◌, ◌<◌, ◌≤◌, true, false, ◌==◌, ◌⊎◌}
use Rattle.std.proofs.Common.{inl, inr, List, [], ◌∷◌, ◌++◌, length, take, drop, get_or, Result, Ok}
use Rattle.std.proofs.Common.{Err, refl, sym, ◌∙◌, ap, subst, eq-eqb, append_assoc, append-nil}
use Rattle.std.proofs.Common.{arith}
use Rattle.std.specs.Prelude.{IsOk}
use Rattle.std.proofs.lemmas.Bool.{eqb-true}
use Rattle.std.proofs.lemmas.List.{length-take, length-drop, nil_from_length, take_more}
use Rattle.std.proofs.lemmas.List.{take-append-drop}
use Rattle.std.proofs.Math.Seq.{take-length, drop-cons}
use Rattle.ber_core.specs.declared.fault.BerFault.{BerFault}
use Rattle.ber_core.specs.Length.{IsSlice}
use Rattle.ber_core.specs.Spelling.{SpellsAll}
use Rattle.ber_core.specs.View.{View, view_before, end_of, left}
use Rattle.ber_core.specs.Facts.Whole.{read_trees-ok}
use Rattle.ber_core.specs.Reading.{◌>>=◌, leave}
use Rattle.ber_shape.specs.Results.{bind_ok, ok_is, err_ok, chosen}
use Rattle.ber_shape.specs.Steps.{left_at_end}
use Rattle.ber_shape.specs.List.{list_of, many_at, some_left}
use Rattle.ber_shape.specs.Exact.{whole, members_are, members_again}
use Rattle.ber_shape.specs.Lent.{or_none, between, lent_whole}
use Rattle.sle_common.specs.declared.instance_id.InstancePart.{InstancePart}
use Rattle.sle_common.specs.Identifier.{IsIdentifier}
use Rattle.sle_common.specs.IdentifierOctets.{part, parts, parts_trees, list_fits}
use Rattle.sle_common.specs.InstanceRef.{parts_in}

-- ---- lists of parts

-- octets that spell an identifier's parts hold them as a list
pub listed : (octets : List ℕ) (list : List InstancePart) → IsSlice octets
    → whole parts.read octets ≡ Ok list → whole (list_of part 8).read octets ≡ Ok list
listed octets list slice e =
    let (fits, spells) = members_are parts octets list slice e in
    members_again (list_of part 8) refl octets list (list_fits list fits)
    (subst (λ ts. SpellsAll ts octets) (parts_trees list fits) spells)

-- what was lent holds the parts that were read
pub lent_parts : (view new : View) (list : List InstancePart) → IsSlice view.octets
    → length view.ends ≤ 16 → parts.read view ≡ Ok (list, new) → IsSlice (between view new)
    → parts_in (between view new) ≡ list
lent_parts view new list slice shallow e lent_slice =
    ap or_none (listed (between view new) list lent_slice
    (lent_whole parts view new list refl slice shallow e))

-- octets that hold an identifier's parts are read
pub valid_read : (octets : List ℕ) → IsIdentifier (parts_in octets)
    → IsOk (whole (list_of part 8).read octets)
valid_read octets are = by_result (whole (list_of part 8).read octets) are.some
  where
    by_result : (r : Result (List InstancePart) BerFault) → 0 < length (or_none r) → IsOk r
    by_result (Ok list) some = refl
    by_result (Err fault) some = absurd (omega (arith, some))

-- ---- one part after the other

ends : (view : View) (n : ℕ) → (view.place == end_of view) ≡ true
    → many_at part.read n view ≡ Ok ([], view)
unfolding many_at
ends view zero e = refl
ends view (suc n) e = rw e refl

goes_on : (view next : View) (n : ℕ) (first : InstancePart) → (view.place == end_of view) ≡ false
    → part.read view ≡ Ok (first, next)
    → many_at part.read (suc n) view ≡ (many_at part.read n next >>= λ others.
    Ok (first ∷ others.0, others.1))
unfolding many_at
goes_on view next n first more read = rw (more, read) refl

stops : (view : View) (n : ℕ) (fault : BerFault) → (view.place == end_of view) ≡ false
    → part.read view ≡ Err fault → many_at part.read (suc n) view ≡ Err fault
unfolding many_at
stops view n fault more read = rw (more, read) refl

more_left : (view next : View) (first : InstancePart) → IsSlice view.octets
    → part.read view ≡ Ok (first, next) → (view.place == end_of view) ≡ false
more_left view next first slice read =
    let was = part.sound view next first slice read in
    elim (view.place == end_of view) as (λ test. (view.place == end_of view) ≡ test
    → test ≡ false) [
      | true ↦ λ e. absurd (some_left (part.tree first) view next was.stands
          (nil_from_length (left view) (omega (
            arith,
            eqb-true view.place (end_of view) e,
            length-take (end_of view - view.place) (drop view.place view.octets),
          ))))
      | false ↦ λ e. refl
    ] refl

-- the first k parts were read and are those of the list
pub record Follows (octets : List ℕ) (list : List InstancePart) (k : ℕ) (now : View) : Type 0 where
  pub is : many_at part.read 8 (view_before octets)
      ≡ (many_at part.read (8 - k) now >>= λ r. Ok (take k list ++ r.0, r.1))
  pub same : now.octets ≡ octets

-- more parts in front of those that are read
abbrev behind_front : List InstancePart → Result (List InstancePart × View) BerFault
    → Result (List InstancePart × View) BerFault
behind_front front r = r >>= λ r. Ok (front ++ r.0, r.1)

abbrev behind_part : InstancePart → Result (List InstancePart × View) BerFault
    → Result (List InstancePart × View) BerFault
behind_part p r = r >>= λ others. Ok (p ∷ others.0, others.1)

unchanged : (r : Result (List InstancePart × View) BerFault) → r ≡ behind_front [] r
unchanged (Ok r) = refl
unchanged (Err fault) = refl

pub begins : (octets : List ℕ) (list : List InstancePart)
    → Follows octets list 0 (view_before octets)
begins octets list = record {
  is = unchanged (many_at part.read 8 (view_before octets));
  same = refl;
}

regrouped : (front : List InstancePart) (p : InstancePart)
    (r : Result (List InstancePart × View) BerFault)
    → behind_front front (behind_part p r) ≡ behind_front (front ++ p ∷ []) r
regrouped front p (Ok r) = ap (λ list. Ok (list, r.1)) (sym (append_assoc front (p ∷ []) r.0))
regrouped front p (Err fault) = refl

pub follows : (octets : List ℕ) (list : List InstancePart) (k : ℕ) (now next : View)
    (p : InstancePart) → Follows octets list k now → IsSlice octets → k < length list
    → length list ≤ 8 → get_or list k p ≡ p
    → part.read now ≡ Ok (p, next) → next.octets ≡ now.octets → Follows octets list (k + 1) next
follows octets list k now next p before slice more few is read same =
    let count : 8 - k ≡ suc (8 - (k + 1)) = omega arith in
    let left = more_left now next p (subst IsSlice (sym before.same) slice) read in
    let step : many_at part.read (8 - k) now ≡ behind_part p (many_at part.read (8 - (k + 1)) next)
    =
    ap (λ n. many_at part.read n now) count ∙ goes_on now next (8 - (k + 1)) p left read in
    let front : take k list ++ p ∷ [] ≡ take (k + 1) list = ap (λ x. take k list ++ x ∷ []) (sym is)
    ∙ sym (take_more list k p more) in
    record {
      is = before.is ∙ ap (behind_front (take k list)) step
          ∙ regrouped (take k list) p (many_at part.read (8 - (k + 1)) next)
          ∙ ap (λ front. behind_front front (many_at part.read (8 - (k + 1)) next)) front;
      same = same ∙ before.same;
    }

pub record Rest (list : List InstancePart) (k : ℕ) (now : View) : Type 0 where
  pub last : View
  pub is : many_at part.read (8 - k) now ≡ Ok (drop k list, last)
  pub at_end : last.place ≡ end_of last

cancelled : (front xs ys : List InstancePart) → front ++ xs ≡ front ++ ys → xs ≡ ys
cancelled [] xs ys e = e
cancelled (p ∷ front) xs ys e = cancelled front xs ys (tails p (front ++ xs) (front ++ ys) e)
  where
    tails : (p : InstancePart) (xs ys : List InstancePart) → p ∷ xs ≡ p ∷ ys → xs ≡ ys
    tails p xs ys e = cc

some_values : (r : Result (List InstancePart) BerFault) (list : List InstancePart)
    → or_none r ≡ list → 0 < length list → r ≡ Ok list
some_values (Ok xs) list e some = ap Ok e
some_values (Err fault) list e some = absurd (omega (arith, some, ap length e))

-- the octets hold the list: so what is left holds the rest of it
rest : (octets : List ℕ) (list : List InstancePart) (k : ℕ) (now : View) → Follows octets list k now
    → 0 < length list → parts_in octets ≡ list → Rest list k now
rest octets list k now before some e =
    let all = some_values (whole (list_of part 8).read octets) list e some in
    let (r, read, left) = bind_ok (many_at part.read 8 (view_before octets))
    (λ r. leave r.1 >>= λ behind. Ok r.0) list all in
    let (behind, leaves, same) = bind_ok (leave r.1) (λ behind. Ok r.0) list left in
    let (q, rest_read, joined) = bind_ok (many_at part.read (8 - k) now)
    (λ q. Ok (take k list ++ q.0, q.1)) r (sym before.is ∙ read) in
    let pairs = ok_is (take k list ++ q.0, q.1) r joined in
    let drops : q.0 ≡ drop k list = cancelled (take k list) q.0 (drop k list) (ap (λ p. p.0) pairs
    ∙ ok_is r.0 list same ∙ sym (take-append-drop k list)) in
    record {
      last = q.1;
      is = rest_read ∙ ap (λ xs. Ok (xs, q.1)) drops;
      at_end = subst (λ v. v.place ≡ end_of v) (sym (ap (λ p. p.1) pairs))
          (left_at_end r.1 behind leaves);
    }

abbrev read_up_to : List InstancePart → View → Result (List InstancePart × View) BerFault
read_up_to xs view = Ok (xs, view)

pub all_follow : (octets : List ℕ) (list : List InstancePart) (now : View)
    → Follows octets list (length list) now → now.place ≡ end_of now → parts_in octets ≡ list
all_follow octets list now before at_end =
    let last : many_at part.read 8 (view_before octets) ≡ Ok (list, now) =
    before.is ∙ ap (behind_front (take (length list) list))
    (ends now (8 - length list) (eq-eqb now.place (end_of now) at_end))
    ∙ ap (λ xs. read_up_to xs now) (append-nil (take (length list) list) ∙ take-length list) in
    let all : whole (list_of part 8).read octets ≡ Ok list =
    rw (last, eq-eqb now.place (end_of now) at_end) refl in
    ap or_none all

nil_cons : (p : InstancePart) (xs : List InstancePart) → [] ≡ p ∷ xs → ⊥
nil_cons p xs e = cc

heads : (p q : InstancePart) (xs ys : List InstancePart) → p ∷ xs ≡ q ∷ ys → p ≡ q
heads p q xs ys e = cc

-- a list that was read began with a part
pub record Began (view : View) (list : List InstancePart) : Type 0 where
  pub first : InstancePart
  pub next : View
  pub others : List InstancePart
  pub read : part.read view ≡ Ok (first, next)
  pub is : list ≡ first ∷ others

began : (n : ℕ) (view last : View) (list : List InstancePart)
    → many_at part.read (suc n) view ≡ Ok (list, last)
    → ((view.place ≡ end_of view) × (list ≡ [])) ⊎ Began view list
unfolding many_at
began n view last list e =
    elim (chosen (view.place == end_of view) (Ok ([], view))
    (part.read view >>= λ first. many_at part.read n first.1 >>= λ others.
    Ok (first.0 ∷ others.0, others.1)) (Ok (list, last)) e) [
      | inl h ↦ inl (
        eqb-true view.place (end_of view) h.0,
        sym (ap (λ r. r.0) (ok_is ([], view) (list, last) h.1)),
      )
      | inr h ↦
          let (first, read, others) = bind_ok (part.read view)
          (λ first. many_at part.read n first.1 >>= λ others. Ok (first.0 ∷ others.0, others.1))
          (list, last) h.1 in
          let (behind, more, is) = bind_ok (many_at part.read n first.1)
          (λ others. Ok (first.0 ∷ others.0, others.1)) (list, last) others in
          inr (record {
            first = first.0;
            next = first.1;
            others = behind.0;
            read = read;
            is = sym (ap (λ r. r.0) (ok_is (first.0 ∷ behind.0, behind.1) (list, last) is));
          })
    ]

stays : (n : ℕ) (view last : View) → many_at part.read n view ≡ Ok ([], last)
    → last.place ≡ end_of last → view.place ≡ end_of view
unfolding many_at
stays zero view last e at_end = subst (λ v. v.place ≡ end_of v)
    (sym (ap (λ r. r.1) (ok_is ([], view) ([], last) e))) at_end
stays (suc n) view last e at_end = elim (began n view last [] e)
    [ inl h ↦ h.0 | inr h ↦ absurd (nil_cons h.first h.others h.is) ]

-- octets are left behind the last part of the list
pub more_follow : (octets : List ℕ) (list : List InstancePart) (now : View)
    → Follows octets list (length list) now → 0 < length list → now.place ≢ end_of now
    → parts_in octets ≡ list → ⊥
more_follow octets list now before some other e =
    let r = rest octets list (length list) now before some e in
    let none : drop (length list) list ≡ [] =
    nil_from_length (drop (length list) list) (omega (arith, length-drop (length list) list)) in
    other (stays (8 - length list) now r.last (r.is ∙ ap (λ xs. Ok (xs, r.last)) none) r.at_end)

next_part : (octets : List ℕ) (list : List InstancePart) (k : ℕ) (now : View)
    → Follows octets list k now → k < length list → length list ≤ 8 → parts_in octets ≡ list
    → Began now (drop k list)
next_part octets list k now before more few e =
    let r = rest octets list k now before (omega arith) e in
    let count : 8 - k ≡ suc (7 - k) = omega arith in
    elim (began (7 - k) now r.last (drop k list) (sym (ap (λ n. many_at part.read n now) count)
    ∙ r.is)) [
      | inl h ↦ absurd (omega (arith, ap length h.1, length-drop k list))
      | inr h ↦ h
    ]

-- no part stands next
pub none_follows : (octets : List ℕ) (list : List InstancePart) (k : ℕ) (now : View)
    (fault : BerFault) → Follows octets list k now → k < length list → length list ≤ 8
    → part.read now ≡ Err fault → parts_in octets ≡ list → ⊥
none_follows octets list k now fault before more few read e =
    let h = next_part octets list k now before more few e in
    err_ok fault (h.first, h.next) (sym read ∙ h.read)

-- another part stands next
pub other_follows : (octets : List ℕ) (list : List InstancePart) (k : ℕ) (now next : View)
    (found p : InstancePart) → Follows octets list k now → k < length list → length list ≤ 8
    → get_or list k p ≡ p
    → part.read now ≡ Ok (found, next) → found ≢ p → parts_in octets ≡ list → ⊥
other_follows octets list k now next found p before more few is read other e =
    let h = next_part octets list k now before more few e in
    let same : found ≡ h.first = ap (λ r. r.0)
    (ok_is (found, next) (h.first, h.next) (sym read ∙ h.read)) in
    other (same ∙ heads h.first p h.others (drop (suc k) list) (sym h.is ∙ drop-cons list k p more
    ∙ ap (λ q. q ∷ drop (suc k) list) is))

-- ---- parts that are lent

pub parts_read : (old between new : View) (first : InstancePart) (others : List InstancePart)
    → part.read old ≡ Ok (first, between) → many_at part.read 7 between ≡ Ok (others, new)
    → parts.read old ≡ Ok (first ∷ others, new)
parts_read old between new first others one more = rw (one, more) refl

pub reads_onward : (old new : View) (list : List InstancePart) → IsSlice old.octets
    → length old.ends ≤ 16 → parts.read old ≡ Ok (list, new) → old.place ≤ new.place
reads_onward old new list slice shallow e =
    let were = parts.sound old new list slice e in
    let read = read_trees-ok (parts.trees list) old new slice.each shallow were.stand in
    omega (arith, ap (λ v. v.place) read.moved)

pub spelled_parts : (old new : View) (start : ℕ) (spelled : List ℕ) (list : List InstancePart)
    → start ≡ old.place → new.octets ≡ old.octets
    → spelled ≡ take (new.place - start) (drop start new.octets)
    → IsSlice spelled → IsSlice old.octets → length old.ends ≤ 16 → parts.read old ≡ Ok (list, new)
    → parts.read old ≡ Ok (parts_in spelled, new)
spelled_parts old new start spelled list at same since spelled_slice slice shallow read =
    let is : spelled ≡ between old new = since
    ∙ ap (λ octets. take (new.place - start) (drop start octets)) same
    ∙ ap (λ s. take (new.place - s) (drop s old.octets)) at in
    read ∙ ap (λ xs. Ok (xs, new)) (sym (ap parts_in is
    ∙ lent_parts old new list slice shallow read (subst IsSlice is spelled_slice)))
