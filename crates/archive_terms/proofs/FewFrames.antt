-- A few frames fill a buffer by their number alone.
use Rattle.std.proofs.Common.{◌≡◌, ℕ, ◌+◌, ◌*◌, ◌<◌, ◌≤◌, Bool, true, false, cond, ◌||◌, nat_le}
use Rattle.std.proofs.Common.{List, [], ◌∷◌, length, refl, ap, sym, ◌∙◌, arith, inl, inr}
use Rattle.std.specs.List.{filter, list_all, list_any, sum_by, enumerate_from}
use Rattle.std.proofs.lemmas.List.Sums.{sum_by-cons}
use Rattle.std.proofs.lemmas.Bool.{and_parts, and_from, leb-true, le-leb, lt-leb, cases_lt, or_left}
use Rattle.archive_terms.specs.Archive.{Entry, frame, loss_of_sync, production, seal}
use Rattle.archive_terms.specs.Archive.{is_valid_frame, is_storable, is_ordered, is_archive}
use Rattle.archive_terms.specs.Selection.{Selection, admits, picked}
use Rattle.archive_terms.specs.Delivery.{Item, archived, backlog, end_of_data, archived_items}
use Rattle.archive_terms.specs.Delivery.{frame_octets, is_notice_item, is_full, is_complete}
use Rattle.archive_terms.specs.Delivery.{is_short_frame}
use Rattle.archive_terms.proofs.Picks.{picked-frames}

short_has_few : (item : Item) → is_short_frame item ≡ true
    → (frame_octets item ≤ 65536) × (is_notice_item item ≡ false)
short_has_few (archived place (frame f)) short = (leb-true (length f.octets) 65536 short, refl)
short_has_few (archived place (loss_of_sync l)) short = cc
short_has_few (archived place (production p)) short = cc
short_has_few (archived place (seal t)) short = cc
short_has_few backlog short = cc
short_has_few end_of_data short = cc

few_octets : (items : List Item) → list_all is_short_frame items ≡ true
    → sum_by frame_octets items ≤ 65536 * length items
few_octets [] short = omega arith
few_octets (x ∷ items) short =
    let parts : (is_short_frame x ≡ true) × (list_all is_short_frame items ≡ true) =
    and_parts (is_short_frame x) (list_all is_short_frame items) short in
    let here : frame_octets x ≤ 65536 = (short_has_few x parts.0).0 in
    let rest : sum_by frame_octets items ≤ 65536 * length items = few_octets items parts.1 in
    omega (arith, sum_by-cons frame_octets x items)

no_notices : (items : List Item) → list_all is_short_frame items ≡ true
    → list_any is_notice_item items ≡ false
no_notices [] short = refl
no_notices (x ∷ items) short =
    let parts : (is_short_frame x ≡ true) × (list_all is_short_frame items ≡ true) =
    and_parts (is_short_frame x) (list_all is_short_frame items) short in
    ap (λ b. b || list_any is_notice_item items) (short_has_few x parts.0).1
    ∙ no_notices items parts.1

pub complete_by_number : (size : ℕ) (items : List Item) → size ≤ 8
    → list_all is_short_frame items ≡ true → is_complete size items ≡ nat_le size (length items)
complete_by_number size items small short =
    elim (cases_lt (length items) size) [
      | inl less ↦
          let few : sum_by frame_octets items < 524288 = omega (arith, few_octets items short) in
          ap (λ b. (b || nat_le 524288 (sum_by frame_octets items))
          || list_any is_notice_item items) (lt-leb size (length items) less)
          ∙ ap (λ b. b || list_any is_notice_item items)
          (lt-leb 524288 (sum_by frame_octets items) few)
          ∙ no_notices items short ∙ sym (lt-leb size (length items) less)
      | inr full ↦
          or_left (is_full size items) (list_any is_notice_item items)
          (or_left (nat_le size (length items)) (nat_le 524288 (sum_by frame_octets items))
          (le-leb size (length items) full))
          ∙ sym (le-leb size (length items) full)
    ]

admitted_short : (s : Selection) (n : ℕ) (a : List Entry) → list_all is_storable a ≡ true
    → list_all is_short_frame (archived_items (filter (λ x. admits s x.0 x.1) (enumerate_from n a)))
    ≡ true
admitted_short s n [] all = refl
admitted_short s n (frame f ∷ a) all = on_test (admits s n (frame f))
    (admitted_short s (n + 1) a parts.1)
  where
    parts : (is_storable (frame f) ≡ true) × (list_all is_storable a ≡ true)
    parts = and_parts (is_storable (frame f)) (list_all is_storable a) all

    rest : List (ℕ × Entry)
    rest = filter (λ x. admits s x.0 x.1) (enumerate_from (n + 1) a)

    on_test : (b : Bool) → list_all is_short_frame (archived_items rest) ≡ true
        → list_all is_short_frame (archived_items (cond b ((n, frame f) ∷ rest) rest)) ≡ true
    on_test true short =
        and_from (nat_le (length f.octets) 65536) (list_all is_short_frame (archived_items rest))
        (and_parts (is_valid_frame f) (nat_le (length f.octets) 65536) parts.0).1 short
    on_test false short = short
admitted_short s n (loss_of_sync l ∷ a) all =
    admitted_short s (n + 1) a (and_parts (is_storable (loss_of_sync l)) (list_all is_storable a)
    all).1
admitted_short s n (production p ∷ a) all = admitted_short s (n + 1) a
    (and_parts (is_storable (production p)) (list_all is_storable a) all).1
admitted_short s n (seal t ∷ a) all = admitted_short s (n + 1) a
    (and_parts (is_storable (seal t)) (list_all is_storable a) all).1

pub picked_short : (a : List Entry) (s : Selection) → s.notices ≡ false → is_archive a ≡ true
    → list_all is_short_frame (archived_items (picked a s)) ≡ true
picked_short a s none archive =
    ap (λ xs. list_all is_short_frame (archived_items xs)) (picked-frames a s none)
    ∙ admitted_short s 0 a (and_parts (list_all is_storable a) (is_ordered a) archive).0
