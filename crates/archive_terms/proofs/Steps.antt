-- What a step leads to where the link takes each offer whole: a ready buffer is offered, or the
-- last one once it is late; else the delivery waits for more items, or rests.
use Rattle.std.proofs.Common.{◌≡◌, ℕ, suc, ◌+◌, ◌<◌, ◌≤◌, Bool, true, false, cond, not, ◌&&◌}
use Rattle.std.proofs.Common.{◌||◌, nat_eq}
use Rattle.std.proofs.Common.{List, [], ◌∷◌, length, take, drop, Option, Some, None, refl}
use Rattle.std.proofs.Common.{arith, inl, inr, ap, sym, ◌∙◌}
use Rattle.std.specs.List.{list_any}
use Rattle.std.proofs.lemmas.List.{length-drop, length-take, length-map, drop_all}
use Rattle.std.proofs.lemmas.List.{drop-drop, drop-map}
use Rattle.std.proofs.lemmas.Bool.{cases_lt, lt-ltb, false≢true, true≢false}
use Rattle.archive_terms.specs.Archive.{Entry}
use Rattle.archive_terms.specs.Delivery.{Item, archived, backlog, end_of_data, archived_items}
use Rattle.archive_terms.specs.Delivery.{is_notification, is_complete, is_full}
use Rattle.archive_terms.specs.Delivery.{buffer_length, cut, Terms, Delivery, limit_of, is_late}
use Rattle.archive_terms.specs.Delivery.{buffer, is_due, is_due_of, contents, is_empty, stepped, taken_whole}
use Rattle.archive_terms.specs.Progress.{is_ready, ready_buffers, unready_buffers}
use Rattle.archive_terms.proofs.Buffers.{room, room-le, room-items, takes_one}
use Rattle.archive_terms.proofs.Cuts.{cut-step}
use Rattle.archive_terms.proofs.States.{State, going, owing, telling, ending, over}
use Rattle.archive_terms.proofs.OfflineRounds.{first_cut, complete_or_last, same_notices, take_none}

-- when the first held item is put, in a step at this moment
abbrev pub first_put : Delivery → ℕ → ℕ
first_put d now = cond (is_empty d) now d.since

pub data Steps (t : Terms) (entries : List (ℕ × Entry)) (closed : Bool) (now : ℕ)
    (d s : Delivery) : Type 0 where
  -- the first ready buffer is offered
  hands : s.fixed ≡ true
      → ready_buffers t entries closed d
      ≡ buffer entries s ∷ ready_buffers t entries closed (taken_whole s)
      → unready_buffers t entries closed d ≡ unready_buffers t entries closed (taken_whole s)
      → Steps t entries closed now d s
  -- the last buffer is offered, since it is late
  late : s.fixed ≡ true → ready_buffers t entries closed d ≡ []
      → unready_buffers t entries closed d ≡ buffer entries s ∷ []
      → ready_buffers t entries closed (taken_whole s) ≡ []
      → unready_buffers t entries closed (taken_whole s) ≡ []
      → is_late (limit_of t) (first_put d now) now ≡ true
      → Steps t entries closed now d s
  -- the last buffer isn't late
  waits : s.fixed ≡ false → ready_buffers t entries closed d ≡ []
      → ready_buffers t entries closed s ≡ []
      → unready_buffers t entries closed s ≡ unready_buffers t entries closed d
      → is_late (limit_of t) (first_put d now) now ≡ false
      → first_put d now ≡ s.since → is_empty s ≡ false
      → Steps t entries closed now d s
  -- nothing waits
  rests : s.fixed ≡ false → ready_buffers t entries closed d ≡ []
      → ready_buffers t entries closed s ≡ []
      → unready_buffers t entries closed d ≡ []
      → unready_buffers t entries closed s ≡ []
      → Steps t entries closed now d s

-- a delivery of which nothing is owed, and whose buffer isn't fixed
abbrev open_at : ℕ → ℕ → ℕ → Delivery
open_at n k since =
    record {
      settled = n;
      held = k;
      head = None;
      owed = false;
      fixed = false;
      since = since;
      ended = false;
    }

-- what it becomes by a step: with so many entries held, and with end of data where it ends
abbrev filled_at : ℕ → ℕ → ℕ → Bool → Bool → Delivery
filled_at n k since ends fixed =
    record {
      settled = n;
      held = k;
      head = cond ends (Some end_of_data) None;
      owed = false;
      fixed = fixed;
      since = since;
      ended = false;
    }

-- whether a buffer is due
told_is_ready : (size : ℕ) (x : Item) (items : List Item) → is_notification x ≡ true
    → is_ready size (x ∷ items) ≡ true
told_is_ready size x items is = rw is (by_full (is_full size (x ∷ items)))
  where
    by_full : (b : Bool) → (b || true) ≡ true
    by_full true = refl
    by_full false = refl

due_on : (full notified passed last : Bool) → (full || notified) ≡ true
    → (notified || full || passed || last) ≡ true
due_on full true passed last is = refl
due_on true false passed last is = refl
due_on false false passed last is = absurd (false≢true is)

late_on : (full notified passed : Bool) → (full || notified) ≡ false
    → (notified || full || passed || false) ≡ passed
late_on true true passed is = absurd (true≢false is)
late_on false true passed is = absurd (true≢false is)
late_on true false passed is = absurd (true≢false is)
late_on false false true is = refl
late_on false false false is = refl

last_on : (full notified passed : Bool) → (notified || full || passed || true) ≡ true
last_on true true true = refl
last_on true true false = refl
last_on true false true = refl
last_on true false false = refl
last_on false true true = refl
last_on false true false = refl
last_on false false true = refl
last_on false false false = refl

module _ (size : ℕ) (limit : Option ℕ) (now since : ℕ) (items : List Item)
    (some : 0 < length items) where
  due_ready : (last : Bool) → is_ready size items ≡ true
      → is_due_of size limit now last (contents since items) ≡ true
  due_ready last ready = rw (lt-ltb 0 (length items) some) (due_on (is_full size items)
      (list_any is_notification items) (is_late limit since now) last ready)

  due_last : is_due_of size limit now true (contents since items) ≡ true
  due_last = rw (lt-ltb 0 (length items) some) (last_on (is_full size items)
      (list_any is_notification items) (is_late limit since now))

  due_late : is_ready size items ≡ false
      → is_due_of size limit now false (contents since items) ≡ is_late limit since now
  due_late still = rw (lt-ltb 0 (length items) some) (late_on (is_full size items)
      (list_any is_notification items) (is_late limit since now) still)

-- a delivery that owes a backlog, whose buffer begins with one or is to begin with one
abbrev telling_at : ℕ → ℕ → Option Item → ℕ → Bool → Delivery
telling_at n k head since fixed =
    record {
      settled = n;
      held = k;
      head = head;
      owed = true;
      fixed = fixed;
      since = since;
      ended = false;
    }

module _ (t : Terms) (entries : List (ℕ × Entry)) (now n k since : ℕ) where
  abbrev before : Delivery
  before = open_at n k since

  abbrev left : List (ℕ × Entry)
  left = drop n entries

  abbrev buffer_of : ℕ → List Item
  buffer_of m = archived_items (take m left)

  abbrev behind : ℕ → List Item
  behind m = archived_items (drop (n + m) entries)

  -- with nothing left, end of data is offered where the stop is closed
  ends_step : (m p : ℕ) → left ≡ [] → Steps t entries true now before (filled_at n m p true true)
  ends_step m p none = hands refl (rw (none, take_none m) refl) refl

  rests_step : (m p : ℕ) → left ≡ []
      → Steps t entries false now before (filled_at n m p false false)
  rests_step m p none = rests refl (rw none refl) (rw none refl) (rw none refl) (rw none refl)

  -- a ready buffer, and each one where the stop is closed, is offered
  closed_step : (m p : ℕ) → cut t.size (archived_items left) ≡ buffer_of m ∷ cut t.size (behind m)
      → Steps t entries true now before (filled_at n m p false true)
  closed_step m p first = hands refl (rw first refl) refl

  ready_step : (m p : ℕ) → cut t.size (archived_items left) ≡ buffer_of m ∷ cut t.size (behind m)
      → is_ready t.size (buffer_of m) ≡ true
      → Steps t entries false now before (filled_at n m p false true)
  ready_step m p first ready = hands refl (rw (first, ready) refl) (rw (first, ready) refl)

  -- the last buffer is offered where it is late
  late_step : (m p : ℕ) → cut t.size (archived_items left) ≡ buffer_of m ∷ []
      → behind m ≡ []
      → is_ready t.size (buffer_of m) ≡ false
      → is_late (limit_of t) (first_put before now) now ≡ true
      → Steps t entries false now before (filled_at n m p false true)
  late_step m p last none still is =
      late refl (rw (last, still) refl) (rw (last, still) refl) (rw none refl) (rw none refl) is

  waits_step : (m : ℕ) → cut t.size (archived_items left) ≡ buffer_of m ∷ []
      → is_ready t.size (buffer_of m) ≡ false
      → is_late (limit_of t) (first_put before now) now ≡ false
      → 0 < m
      → Steps t entries false now before (filled_at n m (first_put before now) false false)
  waits_step m last still is some =
      waits refl (rw (last, still) refl) (rw (last, still) refl) refl is refl (grind arith)

  -- with an owed backlog as its head a buffer is ready
  told_step : (closed : Bool) (head : Option Item) (m p : ℕ)
      → cut t.size (backlog ∷ archived_items left)
      ≡ (backlog ∷ buffer_of m) ∷ cut t.size (behind m)
      → is_ready t.size (backlog ∷ buffer_of m) ≡ true
      → Steps t entries closed now (telling_at n k head since false)
      (telling_at n m (Some backlog) p true)
  told_step true head m p first ready = hands refl (rw first refl) refl
  told_step false head m p first ready = hands refl (rw (first, ready) refl)
      (rw (first, ready) refl)

  same_step : (closed : Bool) (m p q : ℕ) (ends due e f : Bool) → ends ≡ e → due ≡ f → p ≡ q
      → Steps t entries closed now before (filled_at n m q e f)
      → Steps t entries closed now before (filled_at n m p ends due)
  same_step closed m p q ends due e f is fixed at step = rw (is, fixed, at) step

  -- how many entries a step holds, since when, whether end of data alone, and whether they are due
  abbrev more : ℕ
  more = room t.size None left

  abbrev put : ℕ
  put = cond ((true && nat_eq k 0) && not (true && nat_eq more 0)) now since

  abbrev ends : Bool → Bool
  ends closed = (true && nat_eq more 0) && closed && nat_eq n (length entries)

  abbrev due : Bool → Bool → Bool
  due closed ends = is_due t entries closed now (filled_at n more put ends false)

  pub going_step : (closed : Bool) → 0 < t.size → n ≤ length entries
      → Steps t entries closed now before (stepped t entries closed now before)
  going_step closed some within =
      elim (cases_lt n (length entries)) [
        | inl rest ↦ by_stop closed (omega (arith, length-drop n entries))
        | inr all ↦ at_end closed (drop_all n entries (omega arith)) (omega arith)
      ]
    where
      items : List Item
      items = archived_items left

      none_held : left ≡ [] → more ≡ 0
      none_held none = omega (arith, room-le t.size None left, ap length none)

      by_any : (b c : Bool) → (b && false && c) ≡ false
      by_any true c = refl
      by_any false c = refl

      at_end : (closed : Bool) → left ≡ [] → n ≡ length entries
          → Steps t entries closed now before
          (filled_at n more put (ends closed) (due closed (ends closed)))
      at_end true none all =
          let is : ends true ≡ true = grind (arith, none_held none, all) in
          same_step true more put put (ends true) (due true (ends true)) true true is
          (rw is (due_ready t.size (limit_of t) now put (end_of_data ∷ buffer_of more)
          (omega arith) (true && nat_eq (n + more) (length entries))
          (told_is_ready t.size end_of_data (buffer_of more) refl)))
          refl (ends_step more put none)
      at_end false none all =
          let is : ends false ≡ false = by_any (true && nat_eq more 0) (nat_eq n (length entries)) in
          same_step false more put put (ends false) (due false (ends false)) false false is
          (rw (is, none) refl) refl (rests_step more put none)

      put_same : (empty none : Bool) → none ≡ false
          → cond (empty && not (true && none)) now since ≡ cond empty now since
      put_same true none is = rw is refl
      put_same false none is = refl

      holds : 0 < length left → 0 < more
      holds rest = omega (
        arith,
        takes_one t.size items some (omega (arith, length-map left (λ x. archived x.0 x.1))),
      )

      holds_items : 0 < length left → 0 < length (buffer_of more)
      holds_items rest = omega (
        arith,
        holds rest,
        length-map (take more left) (λ x. archived x.0 x.1),
        length-take more left,
        room-le t.size None left,
      )

      first : 0 < length left → cut t.size items ≡ buffer_of more ∷ cut t.size (behind more)
      first rest = rw (first_cut t.size left some rest, drop-drop more n entries) refl

      goes_on : (closed : Bool) → 0 < length left → ends closed ≡ false
      goes_on closed rest =
          let some_held : nat_eq more 0 ≡ false = grind (arith, holds rest) in rw some_held refl

      complete_is_ready : is_complete t.size (buffer_of more) ≡ true
          → is_ready t.size (buffer_of more) ≡ true
      complete_is_ready is = rw (same_notices (take more left)) is

      last_or_ready : 0 < length left → is_due_of t.size (limit_of t) now
          (true && nat_eq (n + more) (length entries)) (contents put (buffer_of more)) ≡ true
      last_or_ready rest =
          elim (cases_lt more (length left)) [
            | inl further ↦ due_ready t.size (limit_of t) now put (buffer_of more)
                (holds_items rest) (true && nat_eq (n + more) (length entries))
                (complete_is_ready (complete_or_last t.size left further))
            | inr none ↦
                let last : nat_eq (n + more) (length entries) ≡ true =
                grind (arith, none, room-le t.size None left, length-drop n entries, within) in
                rw last (due_last t.size (limit_of t) now put (buffer_of more) (holds_items rest))
          ]

      all_held : 0 < length left → is_ready t.size (buffer_of more) ≡ false → length left ≤ more
      all_held rest still =
          elim (cases_lt more (length left)) [
            | inl further ↦ absurd (true≢false (sym (complete_is_ready
                (complete_or_last t.size left further)) ∙ still))
            | inr none ↦ none
          ]

      behind_none : 0 < length left → is_ready t.size (buffer_of more) ≡ false
          → drop (n + more) entries ≡ []
      behind_none rest still = drop_all (n + more) entries
          (omega (arith, all_held rest still, length-drop n entries))

      alone : 0 < length left → is_ready t.size (buffer_of more) ≡ false
          → cut t.size items ≡ buffer_of more ∷ []
      alone rest still = rw (first rest, behind_none rest still) refl

      put_is : 0 < length left → put ≡ first_put before now
      put_is rest =
          let some_held : nat_eq more 0 ≡ false = grind (arith, holds rest) in
          put_same (true && nat_eq k 0) (nat_eq more 0) some_held

      due_is : 0 < length left → is_ready t.size (buffer_of more) ≡ false
          → is_due_of t.size (limit_of t) now false (contents put (buffer_of more))
          ≡ is_late (limit_of t) (first_put before now) now
      due_is rest still =
          due_late t.size (limit_of t) now put (buffer_of more) (holds_items rest) still
          ∙ ap (λ since. is_late (limit_of t) since now) (put_is rest)

      by_late : (is : Bool) → is_late (limit_of t) (first_put before now) now ≡ is
          → 0 < length left → is_ready t.size (buffer_of more) ≡ false
          → Steps t entries false now before
          (filled_at n more put (ends false) (due false (ends false)))
      by_late true passed rest still =
          same_step false more put put (ends false) (due false (ends false)) false true
          (goes_on false rest)
          (rw (goes_on false rest) (due_is rest still ∙ passed))
          refl (late_step more put (alone rest still) (ap archived_items (behind_none rest still))
          still passed)
      by_late false passed rest still =
          same_step false more put (first_put before now) (ends false) (due false (ends false))
          false false
          (goes_on false rest)
          (rw (goes_on false rest) (due_is rest still ∙ passed))
          (put_is rest) (waits_step more (alone rest still) still passed (holds rest))

      by_ready : (is : Bool) → is_ready t.size (buffer_of more) ≡ is → 0 < length left
          → Steps t entries false now before
          (filled_at n more put (ends false) (due false (ends false)))
      by_ready true ready rest =
          same_step false more put put (ends false) (due false (ends false)) false true
          (goes_on false rest)
          (rw (goes_on false rest) (due_ready t.size (limit_of t) now put (buffer_of more)
          (holds_items rest) false ready))
          refl (ready_step more put (first rest) ready)
      by_ready false still rest = by_late (is_late (limit_of t) (first_put before now) now) refl
          rest still

      by_stop : (closed : Bool) → 0 < length left
          → Steps t entries closed now before
          (filled_at n more put (ends closed) (due closed (ends closed)))
      by_stop true rest =
          same_step true more put put (ends true) (due true (ends true)) false true
          (goes_on true rest)
          (rw (goes_on true rest) (last_or_ready rest))
          refl (closed_step more put (first rest))
      by_stop false rest = by_ready (is_ready t.size (buffer_of more)) refl rest

  -- how many entries a buffer holds behind a backlog
  abbrev more_told : ℕ
  more_told = room t.size (Some backlog) left

  first_told : 0 < t.size → cut t.size (backlog ∷ archived_items left)
      ≡ (backlog ∷ buffer_of more_told) ∷ cut t.size (behind more_told)
  first_told some =
      let items : List Item = backlog ∷ archived_items left in
      let one : 0 < buffer_length t.size items = takes_one t.size items some (omega arith) in
      let split : buffer_length t.size items ≡ suc more_told = omega arith in
      let rest : drop (buffer_length t.size items) items ≡ behind more_told =
      ap (λ j. drop j items) split
      ∙ drop-map (λ x. archived x.0 x.1) more_told left
      ∙ ap archived_items (drop-drop more_told n entries) in
      rw (
        cut-step t.size items some (omega arith),
        rest,
        ← room-items t.size (Some backlog) left some,
      ) refl

  told_whole : (closed : Bool) (head : Option Item) (p : ℕ) (last : Bool) → 0 < t.size
      → Steps t entries closed now (telling_at n k head since false)
      (telling_at n more_told (Some backlog) p (is_due_of t.size (limit_of t) now last
      (contents p (backlog ∷ buffer_of more_told))))
  told_whole closed head p last some =
      let ready : is_ready t.size (backlog ∷ buffer_of more_told) ≡ true =
      told_is_ready t.size backlog (buffer_of more_told) refl in
      rw (due_ready t.size (limit_of t) now p (backlog ∷ buffer_of more_told) (omega arith) last
      ready)
      (told_step closed head more_told p (first_told some) ready)

-- after end of data nothing is offered
abbrev over_at : ℕ → ℕ → ℕ → Bool → Delivery
over_at n k since fixed =
    record {
      settled = n;
      held = k;
      head = None;
      owed = false;
      fixed = fixed;
      since = since;
      ended = true;
    }

over_step : (t : Terms) (entries : List (ℕ × Entry)) (closed : Bool) (now n k since m p : ℕ)
    (fixed : Bool)
    → fixed ≡ false
    → Steps t entries closed now (over_at n k since false) (over_at n m p fixed)
over_step t entries closed now n k since m p fixed is = rw is (rests refl refl refl refl refl)

-- from each state that a delivery comes through
pub state_step : (t : Terms) (entries : List (ℕ × Entry)) (closed : Bool) (now : ℕ) (d : Delivery)
    → 0 < t.size → State t entries closed d
    → Steps t entries closed now d (stepped t entries closed now d)
state_step t entries closed now d some (going n k true since fits limits) = hands refl refl refl
state_step t entries closed now d some (going n k false since fits limits) =
    going_step t entries now n k since closed some (omega arith)
state_step t entries closed now d some (owing n since fits timely) =
    told_whole t entries now n 0 since closed None _
    (closed && nat_eq (n + more_told t entries now n 0 since) (length entries)) some
state_step t entries closed now d some (telling n k true since fits limits timely) =
    hands refl refl refl
state_step t entries closed now d some (telling n k false since fits limits timely) =
    told_whole t entries now n k since closed (Some backlog) _
    (closed && nat_eq (n + more_told t entries now n k since) (length entries)) some
state_step t entries closed now d some (ending n k true since all none is shut) =
    hands refl refl refl
state_step t entries closed now d some (ending n k false since all none is shut) =
    absurd (false≢true is)
state_step t entries closed now d some (over n k true since all none is shut) =
    absurd (true≢false is)
state_step t entries closed now d some (over n k false since all none is shut) =
    let none : drop n entries ≡ [] = drop_all n entries (omega arith) in
    over_step t entries closed now n k since _ _ _ (rw none refl)
