-- How far a buffer goes, and how items are cut into buffers.
use Rattle.std.proofs.Common.{◌≡◌, ℕ, ◌+◌, ◌-◌, ◌<◌, ◌≤◌, Bool, true, false, not, ◌||◌, nat_le}
use Rattle.std.proofs.Common.{List, [], ◌∷◌, ◌++◌, length, take, Option, Some, None, refl, ap, sym}
use Rattle.std.proofs.Common.{◌∙◌, arith, subst, inl, inr, zero-add, get_or}
use Rattle.std.specs.List.{list_any, enumerate_from, sum_by}
use Rattle.std.specs.Option.{option_to_list}
use Rattle.std.proofs.lemmas.List.{take-take, length-take, length-take-le, length-append}
use Rattle.std.proofs.lemmas.List.{length-map, take-map}
use Rattle.std.proofs.lemmas.List.FromFn.{length-enumerate_from, get_or-enumerate_from}
use Rattle.std.proofs.lemmas.List.Sums.{prefix_len-le-length, prefix_len_passes, prefix_len_stops}
use Rattle.std.proofs.lemmas.Bool.{or_left, not-true, not-false, le-leb, lt-leb, both_ways}
use Rattle.std.proofs.lemmas.Bool.{cases_lt}
use Rattle.std.proofs.Math.Seq.{take-append-add}
use Rattle.archive_terms.specs.Archive.{Entry}
use Rattle.archive_terms.specs.Delivery.{Item, archived, backlog, archived_items, entries_of}
use Rattle.archive_terms.specs.Delivery.{frame_octets, is_notice_item, is_full, is_complete}
use Rattle.archive_terms.specs.Delivery.{buffer_length}

-- no proper prefix of the items is complete
pub record InLimits (size : ℕ) (items : List Item) : Type 0 where
  pub open_before : (j : ℕ) → j < length items → is_complete size (take j items) ≡ false

pub buffer_length-le : (size : ℕ) (items : List Item) → buffer_length size items ≤ length items
buffer_length-le size items =
    let test : ℕ × Item → Bool = λ x. not (is_complete size (take x.0 items)) in
    omega (arith, prefix_len-le-length test (enumerate_from 0 items), length-enumerate_from 0 items)

-- the items before it leave the buffer open
pub buffer_length-open : (size : ℕ) (items : List Item) (j : ℕ) → j < buffer_length size items
    → is_complete size (take j items) ≡ false
buffer_length-open size items j below =
    let test : ℕ × Item → Bool = λ x. not (is_complete size (take x.0 items)) in
    let within : j < length items = omega (arith, buffer_length-le size items) in
    let at : test (get_or (enumerate_from 0 items) j (0, backlog)) ≡ true =
    prefix_len_passes test (enumerate_from 0 items) j (0, backlog) below in
    let here : test (j, get_or items j backlog) ≡ true =
    ap test (sym (get_or-enumerate_from 0 items j (0, backlog) within
    ∙ ap (λ k. (k, get_or items j backlog)) (zero-add j)))
    ∙ at in
    not-true (is_complete size (take j items)) here

-- where items are left, the taken ones are complete
pub buffer_length-stops : (size : ℕ) (items : List Item) → buffer_length size items < length items
    → is_complete size (take (buffer_length size items) items) ≡ true
buffer_length-stops size items within =
    let test : ℕ × Item → Bool = λ x. not (is_complete size (take x.0 items)) in
    let j : ℕ = buffer_length size items in
    let inside : j < length (enumerate_from 0 items) =
    omega (arith, length-enumerate_from 0 items) in
    let at : test (get_or (enumerate_from 0 items) j (0, backlog)) ≡ false =
    prefix_len_stops test (enumerate_from 0 items) (0, backlog) inside in
    let here : test (j, get_or items j backlog) ≡ false =
    ap test (sym (get_or-enumerate_from 0 items j (0, backlog) within
    ∙ ap (λ k. (k, get_or items j backlog)) (zero-add j)))
    ∙ at in
    not-false (is_complete size (take j items)) here

pub taken_in_limits : (size : ℕ) (items : List Item)
    → InLimits size (take (buffer_length size items) items)
taken_in_limits size items = record {
  open_before = λ j below.
      let short : j < buffer_length size items =
      omega (arith, length-take (buffer_length size items) items) in
      ap (is_complete size) (take-take j (buffer_length size items) items (omega arith))
      ∙ buffer_length-open size items j short;
}

pub nothing_complete : (size : ℕ) → 0 < size → is_complete size [] ≡ false
nothing_complete size some = ap (λ b. (b || false) || false) (lt-leb size 0 some)

-- a buffer of which no proper prefix is complete has at most `size` items
pub InLimits-length : (size : ℕ) (items : List Item) → InLimits size items → length items ≤ size
InLimits-length size items ok =
    elim (cases_lt size (length items)) [
      | inl more ↦ absurd (both_ways (is_complete size (take size items)) (ok.open_before size more)
          (or_left (is_full size (take size items)) (list_any is_notice_item (take size items))
          (or_left (nat_le size (length (take size items)))
          (nat_le 524288 (sum_by frame_octets (take size items)))
          (le-leb size (length (take size items))
          (omega (
            arith,
            length-take-le size items (let e : size ≤ length items = omega arith in
                e),
          ))))))
      | inr fits ↦ fits
    ]

pub takes_one : (size : ℕ) (items : List Item) → 0 < size → 0 < length items
    → 0 < buffer_length size items
takes_one size items some more =
    elim (cases_lt 0 (buffer_length size items)) [
      | inl one ↦ one
      | inr none ↦
          let zero_is : buffer_length size items ≡ 0 = omega arith in
          let at : is_complete size (take 0 items) ≡ true =
          ap (λ n. is_complete size (take n items)) (sym zero_is)
          ∙ buffer_length-stops size items (omega arith) in
          absurd (both_ways (is_complete size []) (nothing_complete size some) at)
    ]

-- how many entries a buffer holds behind its head
abbrev pub room : ℕ → Option Item → List (ℕ × Entry) → ℕ
room size head waiting =
    let front = option_to_list head in
    buffer_length size (front ++ archived_items waiting) - length front

-- what it then holds is what the buffer takes of its head and the entries
pub room-items : (size : ℕ) (head : Option Item) (waiting : List (ℕ × Entry)) → 0 < size
    → option_to_list head ++ archived_items (take (room size head waiting) waiting)
    ≡ take (buffer_length size (option_to_list head ++ archived_items waiting))
    (option_to_list head ++ archived_items waiting)
room-items size None waiting some =
    let m : ℕ = buffer_length size (archived_items waiting) in
    ap (λ n. archived_items (take n waiting)) (let e : m - 0 ≡ m = omega arith in e)
    ∙ sym (take-map (λ x. archived x.0 x.1) m waiting)
room-items size (Some x) waiting some =
    let m : ℕ = buffer_length size (x ∷ archived_items waiting) in
    let at_least : 0 < m = takes_one size (x ∷ archived_items waiting) some (omega arith) in
    let split : m ≡ 1 + (m - 1) = omega arith in
    ap (λ xs. x ∷ xs) (sym (take-map (λ x. archived x.0 x.1) (m - 1) waiting))
    ∙ sym (ap (λ n. take n (x ∷ archived_items waiting)) split
    ∙ take-append-add (x ∷ []) (archived_items waiting) (m - 1))

pub room-le : (size : ℕ) (head : Option Item) (waiting : List (ℕ × Entry))
    → room size head waiting ≤ length waiting
room-le size head waiting =
    let front : List Item = option_to_list head in
    omega (
      arith,
      buffer_length-le size (front ++ archived_items waiting),
      length-append front (archived_items waiting),
      length-map waiting (λ x. archived x.0 x.1),
    )

pub room-limits : (size : ℕ) (head : Option Item) (waiting : List (ℕ × Entry)) → 0 < size
    → InLimits size (option_to_list head ++ archived_items (take (room size head waiting) waiting))
room-limits size head waiting some =
    subst (InLimits size) (sym (room-items size head waiting some))
    (taken_in_limits size (option_to_list head ++ archived_items waiting))

pub entries_of-archived : (entries : List (ℕ × Entry))
    → entries_of (archived_items entries) ≡ entries
entries_of-archived [] = refl
entries_of-archived (x ∷ entries) = ap (λ xs. x ∷ xs) (entries_of-archived entries)
