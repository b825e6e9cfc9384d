-- That all which a START is to hand over is handed over in enough rounds.
use Rattle.std.proofs.Common.{◌≡◌, ℕ, ◌+◌, ◌<◌, ◌≤◌, Bool, true, false, cond, not, ◌||◌}
use Rattle.std.proofs.Common.{List, [], ◌∷◌, ◌++◌, suc, length, map, take, drop, refl, ap, sym, ◌∙◌, arith}
use Rattle.std.proofs.Common.{None, Some, Option, nat_le, nat_eq}
use Rattle.std.specs.List.{list_any, filter, cons_option}
use Rattle.std.proofs.lemmas.List.{append-nil, append_assoc, map-append, drop-drop, take-append-drop}
use Rattle.std.proofs.lemmas.List.{take_all, drop_all, length-append, length-map, length-drop}
use Rattle.std.proofs.lemmas.List.Filters.{length-filter_both}
use Rattle.std.proofs.lemmas.List.Elements.{filter-append}
use Rattle.std.proofs.lemmas.Grind.{flat_map-append}
use Rattle.std.proofs.lemmas.Bool.{false≢true, true≢false, and_parts, leb-true}
use Rattle.archive_terms.specs.Archive.{Entry, is_archive}
use Rattle.archive_terms.specs.Selection.{is_stop_closed, is_notice}
use Rattle.archive_terms.specs.Delivery.{Item, archived, backlog, end_of_data, archived_items}
use Rattle.archive_terms.specs.Delivery.{is_timely, is_complete, is_full, is_notification, all_items}
use Rattle.archive_terms.specs.Delivery.{is_backlog, is_notice_item, cut, cut_onto, Terms, Delivery, started}
use Rattle.archive_terms.specs.Rounds.{Round, Outcome, outcomes, handed_buffer, handed_buffers}
use Rattle.archive_terms.specs.Rounds.{items_in, handed_items, settled_items, without_backlog, free_round}
use Rattle.archive_terms.specs.Rounds.{picked_at, FrontsRise, last_front, after_rounds, to_hand_over}
use Rattle.archive_terms.specs.Progress.{is_ready, ready_of, unready_of, ready_buffers, ready_at}
use Rattle.archive_terms.specs.Progress.{unready_buffers, still_buffers, is_last_late, are_enough, are_enough_at}
use Rattle.archive_terms.proofs.Cuts.{join, join-cut_onto}
use Rattle.archive_terms.proofs.Lists.{without_backlog-archived}
use Rattle.archive_terms.proofs.Histories.{reached}
use Rattle.archive_terms.proofs.Runs.{Run, Run-all, Run-further}
use Rattle.archive_terms.proofs.StillRounds.{still_rounds_lem}
use Rattle.archive_terms.proofs.States.{State, going, owing, telling, ending, over}

abbrev end_of : Bool → List Item
end_of closed = cond closed (end_of_data ∷ []) []

-- a complete buffer is ready
any_is_told : (items : List Item) → list_any is_notice_item items ≡ true
    → list_any is_notification items ≡ true
any_is_told [] is = is
any_is_told (archived place entry ∷ items) is = on (is_notice entry) is (any_is_told items)
  where
    on : (b : Bool) → (b || list_any is_notice_item items) ≡ true
        → (list_any is_notice_item items ≡ true → list_any is_notification items ≡ true)
        → (b || list_any is_notification items) ≡ true
    on true is so = refl
    on false is so = so is
any_is_told (backlog ∷ items) is = refl
any_is_told (end_of_data ∷ items) is = refl

complete_is_ready : (size : ℕ) (items : List Item) → is_complete size items ≡ true
    → is_ready size items ≡ true
complete_is_ready size items is = on (is_full size items) (list_any is_notice_item items)
    (list_any is_notification items) is (any_is_told items)
  where
    on : (full notice told : Bool) → (full || notice) ≡ true → (notice ≡ true → told ≡ true)
        → (full || told) ≡ true
    on true notice told is so = refl
    on false notice told is so = so is

-- the ready buffers, and then those that aren't, are all
abbrev IsSplit : ℕ → List (List Item) → Type 0
IsSplit size buffers =
    filter (is_ready size) buffers ++ filter (λ items. not (is_ready size items)) buffers ≡ buffers

one_split : (size : ℕ) (items : List Item) → IsSplit size (items ∷ [])
one_split size items = on (is_ready size items)
  where
    on : (b : Bool) → cond b (items ∷ []) [] ++ cond (not b) (items ∷ []) [] ≡ items ∷ []
    on true = refl
    on false = refl

first_split : (size : ℕ) (items : List Item) (buffers : List (List Item))
    → is_ready size items ≡ true
    → IsSplit size buffers → IsSplit size (items ∷ buffers)
first_split size items buffers ready split =
    ap (λ b. cond b (items ∷ filter (is_ready size) buffers) (filter (is_ready size) buffers)
    ++ cond (not b) (items ∷ filter (λ items. not (is_ready size items)) buffers)
    (filter (λ items. not (is_ready size items)) buffers)) ready
    ∙ ap (λ xs. items ∷ xs) split

cut_split : (size : ℕ) (items held : List Item) → IsSplit size (cut_onto size items held)
cut_split size [] [] = refl
cut_split size [] (x ∷ held) = one_split size (x ∷ held)
cut_split size (x ∷ items) held =
    on (is_complete size (held ++ x ∷ [])) refl (cut_split size items [])
    (cut_split size items (held ++ x ∷ []))
  where
    on : (b : Bool) → is_complete size (held ++ x ∷ []) ≡ b
        → IsSplit size (cut_onto size items []) → IsSplit size (cut_onto size items (held ++ x ∷ []))
        → IsSplit size (cond b ((held ++ x ∷ []) ∷ cut_onto size items [])
        (cut_onto size items (held ++ x ∷ [])))
    on true is next further = first_split size (held ++ x ∷ []) (cut_onto size items [])
        (complete_is_ready size (held ++ x ∷ []) is) next
    on false is next further = further

join-append : (a b : List (List Item)) → join (a ++ b) ≡ join a ++ join b
join-append a b = flat_map-append (λ items. items) a b

-- their items are those that wait, and end of data where the stop is closed
rest_items : (size : ℕ) (items : List Item) (closed : Bool)
    → join (ready_of size items closed ++ unready_of size items closed) ≡ items ++ end_of closed
rest_items size items true =
    ap join (append-nil (cut size items ++ (end_of_data ∷ []) ∷ []))
    ∙ join-append (cut size items) ((end_of_data ∷ []) ∷ [])
    ∙ ap (λ xs. xs ++ end_of_data ∷ []) (join-cut_onto size items [])
rest_items size items false =
    ap join (cut_split size items []) ∙ join-cut_onto size items [] ∙ sym (append-nil items)

-- what was settled before, and the items of all buffers that are left, are all
abbrev AllLeft : Terms → List (ℕ × Entry) → Bool → Delivery → Type 0
AllLeft t entries closed d =
    reached entries d.settled d.ended
    ++ without_backlog (join (ready_buffers t entries closed d ++ unready_buffers t entries closed d))
    ≡ all_items entries closed

module _ (t : Terms) (entries : List (ℕ × Entry)) (closed : Bool) where
  abbrev left : ℕ → List Item
  left n = archived_items (drop n entries)

  abbrev held : ℕ → ℕ → List Item
  held n k = archived_items (take k (drop n entries))

  abbrev buffers_left : List Item → List (List Item)
  buffers_left items = ready_of t.size items closed ++ unready_of t.size items closed

  told_rest : (n : ℕ) → without_backlog (left n ++ end_of closed) ≡ left n ++ end_of closed
  told_rest n =
      filter-append (λ item. not (is_backlog item)) (left n) (end_of closed)
      ∙ ap (λ xs. xs ++ without_backlog (end_of closed)) (without_backlog-archived (drop n entries))
      ∙ ap (λ xs. left n ++ xs) (end_told closed)
    where
      end_told : (closed : Bool) → without_backlog (end_of closed) ≡ end_of closed
      end_told true = refl
      end_told false = refl

  all_of : (n : ℕ) → reached entries n false ++ (left n ++ end_of closed)
      ≡ all_items entries closed
  all_of n =
      let first : List Item = archived_items (take n entries) in
      ap (λ xs. xs ++ (left n ++ end_of closed)) (append-nil first)
      ∙ sym (append_assoc first (left n) (end_of closed))
      ∙ ap (λ xs. xs ++ end_of closed)
      (sym (map-append (λ x. archived x.0 x.1) (take n entries) (drop n entries))
      ∙ ap archived_items (take-append-drop n entries))

  held_then : (n k : ℕ) → held n k ++ (left (n + k) ++ end_of closed) ≡ left n ++ end_of closed
  held_then n k =
      sym (append_assoc (held n k) (left (n + k)) (end_of closed))
      ∙ ap (λ xs. xs ++ end_of closed)
      (ap (λ xs. held n k ++ archived_items xs) (sym (drop-drop k n entries))
      ∙ sym (map-append (λ x. archived x.0 x.1) (take k (drop n entries)) (drop k (drop n entries)))
      ∙ ap archived_items (take-append-drop k (drop n entries)))

  all_behind : (n : ℕ) → reached entries n false ++ without_backlog (left n ++ end_of closed)
      ≡ all_items entries closed
  all_behind n = ap (λ xs. reached entries n false ++ xs) (told_rest n) ∙ all_of n

  fixed_rest : (n k : ℕ) → held n k ++ join (buffers_left (left (n + k))) ≡ left n ++ end_of closed
  fixed_rest n k = ap (λ xs. held n k ++ xs) (rest_items t.size (left (n + k)) closed)
      ∙ held_then n k

  at_end : (n k : ℕ) → n ≡ length entries → closed ≡ true
      → reached entries n false ++ (end_of_data ∷ without_backlog (held n k ++ []))
      ≡ all_items entries closed
  at_end n k all shut =
      ap (λ xs. reached entries n false ++ (end_of_data ∷ without_backlog
      (archived_items (take k xs) ++ []))) (drop_all n entries (omega arith))
      ∙ ap (λ xs. reached entries n false ++ (end_of_data ∷ without_backlog (archived_items xs ++ [])))
      (take_all k [] (omega arith))
      ∙ ap (λ xs. (archived_items xs ++ []) ++ end_of_data ∷ []) (take_all n entries (omega arith))
      ∙ ap (λ xs. xs ++ end_of_data ∷ []) (append-nil (archived_items entries))
      ∙ ap (λ b. archived_items entries ++ end_of b) (sym shut)

  at_over : (n : ℕ) → n ≡ length entries → closed ≡ true
      → reached entries n true ++ [] ≡ all_items entries closed
  at_over n all shut =
      append-nil (reached entries n true)
      ∙ ap (λ xs. archived_items xs ++ end_of_data ∷ []) (take_all n entries (omega arith))
      ∙ ap (λ b. archived_items entries ++ end_of b) (sym shut)

  pub all_left : (d : Delivery) → State t entries closed d → AllLeft t entries closed d
  all_left d (going n k true since fits limits) =
      ap (λ xs. reached entries n false ++ without_backlog xs) (fixed_rest n k) ∙ all_behind n
  all_left d (going n k false since fits limits) =
      ap (λ xs. reached entries n false ++ without_backlog xs) (rest_items t.size (left n) closed)
      ∙ all_behind n
  all_left d (owing n since fits timely) =
      ap (λ xs. reached entries n false ++ without_backlog xs)
      (rest_items t.size (backlog ∷ left n) closed)
      ∙ all_behind n
  all_left d (telling n k true since fits limits timely) =
      ap (λ xs. reached entries n false ++ without_backlog (backlog ∷ xs)) (fixed_rest n k)
      ∙ all_behind n
  all_left d (telling n k false since fits limits timely) =
      ap (λ xs. reached entries n false ++ without_backlog xs)
      (rest_items t.size (backlog ∷ left n) closed)
      ∙ all_behind n
  all_left d (ending n k true since all none is shut) = at_end n k all shut
  all_left d (ending n k false since all none is shut) = absurd (false≢true is)
  all_left d (over n k true since all none is shut) = absurd (true≢false is)
  all_left d (over n k false since all none is shut) = at_over n all shut

  at_end_complete : (n k : ℕ) → n ≡ length entries → closed ≡ true
      → reached entries n false ++ (end_of_data ∷ (held n k ++ [])) ≡ all_items entries closed
  at_end_complete n k all shut =
      ap (λ xs. reached entries n false ++ (end_of_data ∷ (archived_items (take k xs) ++ [])))
      (drop_all n entries (omega arith))
      ∙ ap (λ xs. reached entries n false ++ (end_of_data ∷ (archived_items xs ++ [])))
      (take_all k [] (omega arith))
      ∙ ap (λ xs. (archived_items xs ++ []) ++ end_of_data ∷ []) (take_all n entries (omega arith))
      ∙ ap (λ xs. xs ++ end_of_data ∷ []) (append-nil (archived_items entries))
      ∙ ap (λ b. archived_items entries ++ end_of b) (sym shut)

  -- a complete or offline delivery has no backlog
  pub all_left_complete : (d : Delivery) → is_timely t.mode ≡ false → State t entries closed d
      → reached entries d.settled d.ended
      ++ join (ready_buffers t entries closed d ++ unready_buffers t entries closed d)
      ≡ all_items entries closed
  all_left_complete d mode (going n k true since fits limits) =
      ap (λ xs. reached entries n false ++ xs) (fixed_rest n k) ∙ all_of n
  all_left_complete d mode (going n k false since fits limits) =
      ap (λ xs. reached entries n false ++ xs) (rest_items t.size (left n) closed) ∙ all_of n
  all_left_complete d mode (owing n since fits timely) = absurd (false≢true (sym mode ∙ timely))
  all_left_complete d mode (telling n k fixed since fits limits timely) =
      absurd (false≢true (sym mode ∙ timely))
  all_left_complete d mode (ending n k true since all none is shut) = at_end_complete n k all shut
  all_left_complete d mode (ending n k false since all none is shut) = absurd (false≢true is)
  all_left_complete d mode (over n k true since all none is shut) = absurd (true≢false is)
  all_left_complete d mode (over n k false since all none is shut) = at_over n all shut

  -- in enough rounds all buffers that are left are handed over
  pub still_joined : (d : Delivery) (moments : List ℕ)
      → are_enough t entries closed d moments ≡ true
      → join (still_buffers t entries closed d moments)
      ≡ join (ready_buffers t entries closed d ++ unready_buffers t entries closed d)
  still_joined d moments enough =
      let ready : List (List Item) = ready_buffers t entries closed d in
      let unready : List (List Item) = unready_buffers t entries closed d in
      let parts = and_parts (nat_le (length ready) (length moments)) (nat_eq (length unready) 0
      || is_last_late t entries closed d moments) enough in
      let some : length ready ≤ length moments = leb-true (length ready) (length moments) parts.0 in
      ap join (ap (λ xs. xs ++ cond (is_last_late t entries closed d moments) unready [])
      (take_all (length moments) ready some)
      ∙ ap (λ xs. ready ++ xs) (by_late (is_last_late t entries closed d moments) unready parts.1))
    where
      by_late : (late : Bool) (unready : List (List Item))
          → (nat_eq (length unready) 0 || late) ≡ true
          → cond late unready [] ≡ unready
      by_late true unready is = refl
      by_late false [] is = refl
      by_late false (x ∷ unready) is = absurd (grind (arith, is))

handed_joined : (done : List Outcome) → handed_items done ≡ join (handed_buffers done)
handed_joined [] = refl
handed_joined (o ∷ done) = on (handed_buffer o) (handed_joined done)
  where
    on : (m : Option (List Item)) → handed_items done ≡ join (handed_buffers done)
        → items_in m ++ handed_items done ≡ join (cons_option m (handed_buffers done))
    on (Some items) so = ap (λ xs. items ++ xs) so
    on None so = so

module _ (t : Terms) (entries : List Entry) (rounds : List Round) (front : ℕ) (moments : List ℕ)
    (some : 0 < t.size) (archive : is_archive entries ≡ true) (rise : FrontsRise 0 rounds)
    (behind : last_front 0 rounds ≤ front) where
  abbrev before : List Outcome
  before = outcomes t entries rounds started

  abbrev come_to : Delivery
  come_to = after_rounds t entries rounds started

  abbrev still : List Outcome
  still = outcomes t entries (map (free_round front) moments) come_to

  run : Run t (take front entries) before come_to
  run = Run-further t entries (last_front 0 rounds) front before come_to archive behind
      (Run-all t entries rounds some archive rise)

  enough_joined : are_enough_at t entries front come_to moments ≡ true
      → handed_items still ≡ join (ready_at t entries front come_to
      ++ unready_buffers t (picked_at t entries front)
      (is_stop_closed t.selection (take front entries)) come_to)
  enough_joined enough =
      handed_joined still
      ∙ ap join (still_rounds_lem t entries rounds front moments some archive rise behind)
      ∙ still_joined t (picked_at t entries front) (is_stop_closed t.selection (take front entries))
      come_to moments enough

  pub all_complete : is_timely t.mode ≡ false → are_enough_at t entries front come_to moments ≡ true
      → handed_items before ++ handed_items still ≡ to_hand_over t (take front entries)
  all_complete mode enough =
      ap (λ xs. xs ++ handed_items still) (run.history.all_handed mode)
      ∙ ap (λ xs. reached (picked_at t entries front) come_to.settled come_to.ended ++ xs)
      (enough_joined enough)
      ∙ all_left_complete t (picked_at t entries front)
      (is_stop_closed t.selection (take front entries)) come_to mode run.state

  pub all_timely : are_enough_at t entries front come_to moments ≡ true
      → without_backlog (settled_items before) ++ without_backlog (handed_items still)
      ≡ to_hand_over t (take front entries)
  all_timely enough =
      ap (λ xs. xs ++ without_backlog (handed_items still)) run.history.settled
      ∙ ap (λ xs. reached (picked_at t entries front) come_to.settled come_to.ended
      ++ without_backlog xs) (enough_joined enough)
      ∙ all_left t (picked_at t entries front) (is_stop_closed t.selection (take front entries))
      come_to run.state

-- ---- how many buffers are left at most

cut_few : (size : ℕ) (items held : List Item)
    → length (cut_onto size items held) ≤ length items + length held
cut_few size [] [] = omega arith
cut_few size [] (x ∷ held) = omega arith
cut_few size (x ∷ items) held =
    on (is_complete size (held ++ x ∷ [])) (cut_few size items [])
    (cut_few size items (held ++ x ∷ []))
  where
    on : (b : Bool) → length (cut_onto size items []) ≤ length items + 0
        → length (cut_onto size items (held ++ x ∷ []))
        ≤ length items + length (held ++ x ∷ [])
        → length (cond b ((held ++ x ∷ []) ∷ cut_onto size items [])
        (cut_onto size items (held ++ x ∷ [])))
        ≤ suc (length items) + length held
    on true next further = omega arith
    on false next further = omega (arith, length-append held (x ∷ []))

ready_few : (size : ℕ) (items : List Item) (closed : Bool)
    → length (ready_of size items closed) ≤ length items + 1
ready_few size items true =
    omega (arith, cut_few size items [], length-append (cut size items) ((end_of_data ∷ []) ∷ []))
ready_few size items false =
    omega (
      arith,
      cut_few size items [],
      length-filter_both (is_ready size) (λ items. not (is_ready size items))
          (λ items. refl) (cut size items),
    )

few_behind : (t : Terms) (entries : List (ℕ × Entry)) (closed : Bool) (n : ℕ) (first : List Item)
    → length (ready_of t.size (first ++ archived_items (drop n entries)) closed)
    ≤ length first + length entries + 1
few_behind t entries closed n first =
    omega (
      arith,
      ready_few t.size (first ++ archived_items (drop n entries)) closed,
      length-append first (archived_items (drop n entries)),
      length-map (drop n entries) (λ x. archived x.0 x.1),
      length-drop n entries,
    )

few_left : (t : Terms) (entries : List (ℕ × Entry)) (closed : Bool) (d : Delivery)
    → State t entries closed d
    → length (ready_buffers t entries closed d) ≤ length entries + 2
few_left t entries closed d (going n k true since fits limits) =
    omega (arith, few_behind t entries closed (n + k) [])
few_left t entries closed d (going n k false since fits limits) =
    omega (arith, few_behind t entries closed n [])
few_left t entries closed d (owing n since fits timely) =
    omega (arith, few_behind t entries closed n (backlog ∷ []))
few_left t entries closed d (telling n k true since fits limits timely) =
    omega (arith, few_behind t entries closed (n + k) [])
few_left t entries closed d (telling n k false since fits limits timely) =
    omega (arith, few_behind t entries closed n (backlog ∷ []))
few_left t entries closed d (ending n k true since all none is shut) = omega arith
few_left t entries closed d (ending n k false since all none is shut) = absurd (false≢true is)
few_left t entries closed d (over n k true since all none is shut) = absurd (true≢false is)
few_left t entries closed d (over n k false since all none is shut) = omega arith

pub few_buffers_lem : (t : Terms) (entries : List Entry) (rounds : List Round) (front : ℕ)
    → 0 < t.size → is_archive entries ≡ true → FrontsRise 0 rounds → last_front 0 rounds ≤ front
    → length (ready_at t entries front (after_rounds t entries rounds started))
    ≤ length (picked_at t entries front) + 2
few_buffers_lem t entries rounds front some archive rise behind =
    few_left t (picked_at t entries front) (is_stop_closed t.selection (take front entries))
    (after_rounds t entries rounds started)
    (Run-further t entries (last_front 0 rounds) front (outcomes t entries rounds started)
    (after_rounds t entries rounds started) archive behind
    (Run-all t entries rounds some archive rise)).state
