-- An offline delivery whose front stands still and whose offers are taken hands over the cut
-- buffers.
use Rattle.std.proofs.Common.{◌≡◌, ℕ, suc, ◌+◌, ◌<◌, ◌≤◌, Bool, true, false, cond, ◌&&◌, nat_eq}
use Rattle.std.proofs.Common.{List, [], ◌∷◌, map, length, take, drop, Some, None, refl, arith, inl}
use Rattle.std.proofs.Common.{inr}
use Rattle.std.specs.List.{list_any, cons_option}
use Rattle.std.specs.Option.{option_map_or}
use Rattle.std.proofs.lemmas.List.{length-drop, length-take, length-map, take_all, drop_all}
use Rattle.std.proofs.lemmas.List.{drop-drop, drop-map, take-map, nil_from_length}
use Rattle.std.proofs.lemmas.Bool.{cases_lt, lt-ltb}
use Rattle.archive_terms.specs.Archive.{Entry}
use Rattle.archive_terms.specs.Selection.{is_stop_closed}
use Rattle.archive_terms.specs.Delivery.{is_online, Item, archived, end_of_data, archived_items}
use Rattle.archive_terms.specs.Delivery.{is_notification, is_notice_item, is_complete}
use Rattle.archive_terms.specs.Delivery.{buffer_length, cut, offline_buffers, Terms, Delivery}
use Rattle.archive_terms.specs.Delivery.{buffer, is_due, with_due_fixed, started}
use Rattle.archive_terms.specs.Rounds.{whole, free, answered, fate, nothing, is_failed, picked_at}
use Rattle.archive_terms.specs.Rounds.{outcomes, handed_buffer, handed_buffers, free_round}
use Rattle.archive_terms.proofs.Buffers.{room, room-le, takes_one, buffer_length-stops}
use Rattle.archive_terms.proofs.States.{end_is_due}
use Rattle.archive_terms.proofs.Histories.{end_alone}
use Rattle.archive_terms.proofs.Cuts.{cut-step}

-- a delivery between two rounds of which nothing is owed
abbrev resting : ℕ → ℕ → ℕ → Bool → Bool → Delivery
resting n k since fixed ended =
    record {
      settled = n;
      held = k;
      head = None;
      owed = false;
      fixed = fixed;
      since = since;
      ended = ended;
    }

-- the notifications among archived items are the losses and production changes
pub same_notices : (entries : List (ℕ × Entry))
    → list_any is_notification (archived_items entries)
    ≡ list_any is_notice_item (archived_items entries)
same_notices [] = refl
same_notices (x ∷ entries) = cc (same_notices entries)

-- with entries left the first cut buffer has as many as are held
pub first_cut : (size : ℕ) (waiting : List (ℕ × Entry)) → 0 < size → 0 < length waiting
    → cut size (archived_items waiting)
    ≡ archived_items (take (room size None waiting) waiting)
    ∷ cut size (archived_items (drop (room size None waiting) waiting))
first_cut size waiting some left =
    let items : List Item = archived_items waiting in
    let all : room size None waiting ≡ buffer_length size items = omega arith in
    rw (all, ← take-map, ← drop-map)
    (cut-step size items some (omega (arith, length-map waiting (λ x. archived x.0 x.1))))

-- where entries are left behind the held ones, these are complete
pub complete_or_last : (size : ℕ) (waiting : List (ℕ × Entry)) → room size None waiting < length waiting
    → is_complete size (archived_items (take (room size None waiting) waiting)) ≡ true
complete_or_last size waiting left =
    let items : List Item = archived_items waiting in
    let all : room size None waiting ≡ buffer_length size items = omega arith in
    rw (all, ← take-map)
    (buffer_length-stops size items (omega (arith, length-map waiting (λ x. archived x.0 x.1))))

-- a due buffer is complete, where the stop isn't closed and no latency limit counts
due_is_complete : (t : Terms) (entries : List (ℕ × Entry)) (now n k since : ℕ)
    → is_online t.mode ≡ false
    → is_due t entries false now (resting n k since false false) ≡ true
    → is_complete t.size (archived_items (take k (drop n entries))) ≡ true
due_is_complete t entries now n k since off due =
    grind (arith, same_notices (take k (drop n entries)))

due_holds : (t : Terms) (entries : List (ℕ × Entry)) (closed : Bool) (now n k since : ℕ)
    → is_due t entries closed now (resting n k since false false) ≡ true → 0 < k
due_holds t entries closed now n k since due =
    let held : List (ℕ × Entry) = take k (drop n entries) in
    grind (arith, length-map held (λ x. archived x.0 x.1), length-take k (drop n entries))

-- a held buffer that isn't due is neither complete nor the last before a closed stop
not_due : (t : Terms) (entries : List (ℕ × Entry)) (closed : Bool) (now n k since : ℕ)
    → 0 < length (take k (drop n entries))
    → is_due t entries closed now (resting n k since false false) ≡ false
    → (is_complete t.size (archived_items (take k (drop n entries))) ≡ false)
    × ((closed && nat_eq (n + k) (length entries)) ≡ false)
not_due t entries closed now n k since some due =
    let held : List (ℕ × Entry) = take k (drop n entries) in
    grind (arith, length-map held (λ x. archived x.0 x.1), same_notices held)

-- what is left to hand over after n picked entries
abbrev left : Terms → List (ℕ × Entry) → Bool → ℕ → List (List Item)
left t entries closed n = offline_buffers t.size (drop n entries) closed

abbrev held_from : Terms → List (ℕ × Entry) → ℕ → ℕ
held_from t entries n = room t.size None (drop n entries)

hands_first : (t : Terms) (entries : List (ℕ × Entry)) (closed : Bool) (now n since : ℕ)
    → 0 < t.size
    → is_online t.mode ≡ false
    → is_due t entries closed now (resting n (held_from t entries n) since false false) ≡ true
    → left t entries closed n ≡ archived_items (take (held_from t entries n) (drop n entries))
    ∷ left t entries closed (n + held_from t entries n)
hands_first t entries closed now n since some off due = by_stop closed due
  where
    k : ℕ
    k = held_from t entries n

    more : 0 < k
    more = due_holds t entries closed now n k since due

    first : cut t.size (archived_items (drop n entries))
        ≡ archived_items (take k (drop n entries))
        ∷ cut t.size (archived_items (drop (n + k) entries))
    first = rw (
      first_cut t.size (drop n entries) some
          (omega (arith, more, room-le t.size None (drop n entries))),
      drop-drop k n entries,
    )

    by_stop : (closed : Bool) → is_due t entries closed now (resting n k since false false) ≡ true
        → left t entries closed n ≡ archived_items (take k (drop n entries))
        ∷ left t entries closed (n + k)
    by_stop true due = rw first
    by_stop false due = rw (first, due_is_complete t entries now n k since off due)

-- where neither end of data nor the held buffer is due nothing is left
nothing_left : (t : Terms) (entries : List (ℕ × Entry)) (closed : Bool) (now n since : ℕ)
    → 0 < t.size
    → n ≤ length entries
    → ((true && nat_eq (held_from t entries n) 0) && closed && nat_eq n (length entries)) ≡ false
    → is_due t entries closed now (resting n (held_from t entries n) since false false) ≡ false
    → left t entries closed n ≡ []
nothing_left t entries closed now n since some within no_end due =
    elim (cases_lt 0 (held_from t entries n))
    [ inl held ↦ with_some closed held due | inr none ↦ with_none closed (omega arith) no_end ]
  where
    k : ℕ
    k = held_from t entries n

    waiting : List (ℕ × Entry)
    waiting = drop n entries

    empty : k ≡ 0 → waiting ≡ []
    empty none =
        nil_from_length waiting
        (grind (
          arith,
          takes_one t.size (archived_items waiting) some,
          length-map waiting (λ x. archived x.0 x.1),
        ))

    with_none : (closed : Bool) → k ≡ 0
        → ((true && nat_eq k 0) && closed && nat_eq n (length entries)) ≡ false
        → left t entries closed n ≡ []
    with_none true none no_end = absurd (grind (arith, length-drop n entries, empty none))
    with_none false none no_end = rw (empty none)

    by_stop : (closed : Bool) → 0 < k → length waiting ≤ k
        → is_complete t.size (archived_items (take k waiting)) ≡ false
        → (closed && nat_eq (n + k) (length entries)) ≡ false → left t entries closed n ≡ []
    by_stop true held all still last =
        absurd (grind (arith, length-drop n entries, room-le t.size None waiting))
    by_stop false held all still last =
        rw (
          first_cut t.size waiting some (omega (arith, room-le t.size None waiting)),
          still,
          drop_all k waiting all,
        )

    with_some : (closed : Bool) → 0 < k
        → is_due t entries closed now (resting n k since false false) ≡ false
        → left t entries closed n ≡ []
    with_some closed held due =
        let parts = not_due t entries closed now n k since
        (omega (arith, length-take k waiting, room-le t.size None waiting)) due in
        let all : length waiting ≤ k = grind (arith, complete_or_last t.size waiting, parts.0) in
        by_stop closed held all parts.0 parts.1

pub take_none : {X : Type 0} → (n : ℕ) → take n (let none : List X = [] in none) ≡ []
take_none n = take_all n [] (omega arith)

-- the buffers that rounds at one front hand over
module _ (t : Terms) (a : List Entry) (front : ℕ) where
  abbrev entries : List (ℕ × Entry)
  entries = picked_at t a front

  abbrev closed : Bool
  closed = is_stop_closed t.selection (take front a)

  -- what is left after n of the picked entries
  abbrev behind : ℕ → List (List Item)
  behind n = left t entries closed n

  -- from a delivery on
  abbrev handed_from : List ℕ → Delivery → List (List Item)
  handed_from moments d = handed_buffers (outcomes t a (map (free_round front) moments) d)

  -- the same, where the first round's step has led to d
  abbrev handed_at : List ℕ → Delivery → List (List Item)
  handed_at moments d =
      let answer = cond d.fixed (Some whole) None in
      cons_option
      (handed_buffer (option_map_or (λ x. fate t x d (buffer entries d)) answer nothing))
      (handed_buffers (cond (is_failed (free whole) answer) []
      (outcomes t a (map (free_round front) moments)
      (option_map_or (λ x. answered t x d) answer d))))

  -- after end of data nothing is handed over
  over_hands_nothing : (moments : List ℕ) (n k since : ℕ) → length entries ≤ n
      → handed_from moments (resting n k since false true) ≡ []
  over_hands_nothing [] n k since all = refl
  over_hands_nothing (now ∷ moments) n k since all =
      rw (drop_all n entries all) (over_hands_nothing moments n 0 _ all)

  -- a round at which end of data isn't due
  due_at : (moments : List ℕ) (n k since : ℕ) (due : Bool)
      → (due ≡ true → behind n ≡ archived_items (take k (drop n entries)) ∷ behind (n + k))
      → (due ≡ false → behind n ≡ [])
      → ((n k since : ℕ) → n ≤ length entries
      → handed_from moments (resting n k since false false) ≡ take (length moments) (behind n))
      → n + k ≤ length entries
      → handed_at moments (resting n k since due false) ≡ take (suc (length moments)) (behind n)
  due_at moments n k since true first none rest within =
      rw (first refl, rest (n + k) 0 since within)
  due_at moments n k since false first none rest within =
      rw (rest n k since (omega arith), none refl, take_none (length moments))

  -- a round from a filled buffer, with end of data where the test for it holds
  end_at : (now : ℕ) (moments : List ℕ) (n k since : ℕ) (ends : Bool)
      → (ends ≡ true → (k ≡ 0) × (closed ≡ true) × (n ≡ length entries))
      → (ends ≡ false
      → handed_at moments (with_due_fixed t entries closed now (resting n k since false false))
      ≡ take (suc (length moments)) (behind n))
      → handed_at moments (with_due_fixed t entries closed now
      (record (resting n k since false false) { head = cond ends (Some end_of_data) None }))
      ≡ take (suc (length moments)) (behind n)
  end_at now moments n k since false why else = else refl
  end_at now moments n k since true why else =
      let w : (k ≡ 0) × (closed ≡ true) × (n ≡ length entries) = why refl in
      let last : n ≡ length entries = w.2 in
      let all : behind n ≡ (end_of_data ∷ []) ∷ [] = rw (w.1, drop_all n entries (omega arith)) in
      rw (
        lt-ltb 0 (length (end_of_data ∷ archived_items (take k (drop n entries)))) (omega arith),
        over_hands_nothing moments (n + k) 0 since (omega arith),
        end_alone n k entries w.0,
        all,
        take_none (length moments),
      )

  -- from a delivery of which nothing is owed
  rounds_from : (moments : List ℕ) → 0 < t.size → is_online t.mode ≡ false → (n k since : ℕ)
      → n ≤ length entries
      → handed_from moments (resting n k since false false) ≡ take (length moments) (behind n)
  rounds_from [] some off n k since within = refl
  rounds_from (now ∷ moments) some off n k since within =
      let more : ℕ = held_from t entries n in
      end_at now moments n more _ ((true && nat_eq more 0) && closed && nat_eq n (length entries))
      (end_is_due more n (length entries) closed)
      (λ no_end. due_at moments n more _ _
      (λ due. hands_first t entries closed now n _ some off due)
      (λ due. nothing_left t entries closed now n _ some within no_end due)
      (rounds_from moments some off)
      (omega (arith, room-le t.size None (drop n entries), length-drop n entries)))

  pub offline_rounds_lem : (moments : List ℕ) → 0 < t.size → is_online t.mode ≡ false
      → handed_buffers (outcomes t a (map (free_round front) moments) started)
      ≡ take (length moments) (offline_buffers t.size entries closed)
  offline_rounds_lem moments some off = rounds_from moments some off 0 0 0 (omega arith)
