-- What a delivery is to hand over in the rounds to come, where the link takes each offer whole.
-- This product's own.
use Rattle.std.specs.Prelude.{ℕ, Bool, true, false, not, ◌&&◌, ◌||◌, ◌==◌, nat_le, if◌then◌else◌, List, []}
use Rattle.std.specs.Prelude.{◌∷◌, ◌++◌, length, take, drop, slice_index_or}
use Rattle.std.specs.List.{list_any, list_all, filter}
use Rattle.archive_terms.specs.Archive.{Entry}
use Rattle.archive_terms.specs.Selection.{is_stop_closed}
use Rattle.archive_terms.specs.Delivery.{Item, backlog, end_of_data, archived_items}
use Rattle.archive_terms.specs.Delivery.{is_notification, is_full, cut, Terms, limit_of, is_late}
use Rattle.archive_terms.specs.Delivery.{Delivery, buffer, is_empty, taken_whole}
use Rattle.archive_terms.specs.Delivery.{Mode, is_timely}
use Rattle.archive_terms.specs.Rounds.{whole, stall, fail, Link, free, broken, Round, picked_at}

-- whether a link takes an offer whole, and in how many rounds it does
abbrev pub takes_whole : Link → Bool
takes_whole (free whole) = true
takes_whole _ = false

abbrev pub taken_rounds : List Round → ℕ
taken_rounds rounds = length (filter (λ (r : Round). takes_whole r.link) rounds)

-- a round that loses nothing: the link didn't fail, and no buffer of a timely delivery stalls
abbrev pub keeps : Mode → Link → Bool
keeps mode broken = false
keeps mode (free fail) = false
keeps mode (free stall) = not (is_timely mode)
keeps mode _ = true

abbrev pub all_keep : Mode → List Round → Bool
all_keep mode rounds = list_all (λ (r : Round). keeps mode r.link) rounds

-- whether a backlog is owed that isn't in a fixed buffer
abbrev pub is_to_tell : Delivery → Bool
is_to_tell d = d.owed && not d.fixed

-- a buffer that is offered whatever the moment: one that is full or holds a notification
abbrev pub is_ready : ℕ → List Item → Bool
is_ready size items = is_full size items || list_any is_notification items

-- of items that wait, the buffers that are offered whatever the moment: where the stop is closed
-- all of them, and end of data after them
abbrev pub ready_of : ℕ → List Item → Bool → List (List Item)
ready_of size items closed =
    if closed
    then cut size items ++ (end_of_data ∷ []) ∷ []
    else filter (is_ready size) (cut size items)

-- the buffers that wait for more items or for the latency limit: where the stop is closed none,
-- else the last one at most
abbrev pub unready_of : ℕ → List Item → Bool → List (List Item)
unready_of size items closed =
    if closed then [] else filter (λ items. not (is_ready size items)) (cut size items)

-- the items that wait: a backlog, where one is owed, and the picked entries that aren't settled
abbrev pub waiting_items : List (ℕ × Entry) → Delivery → List Item
waiting_items entries d = (if d.owed then backlog ∷ [] else [])
    ++ archived_items (drop d.settled entries)

-- the delivery after its fixed buffer, where it has one
abbrev pub after_fixed : Delivery → Delivery
after_fixed d = if d.fixed then taken_whole d else d

abbrev pub ready_after : Terms → List (ℕ × Entry) → Bool → Delivery → List (List Item)
ready_after t entries closed d =
    if d.ended then [] else ready_of t.size (waiting_items entries d) closed

-- the buffers that a delivery is to hand over whatever the moments, of these picked entries: the
-- fixed one, and those that are ready of the items after it
abbrev pub ready_buffers : Terms → List (ℕ × Entry) → Bool → Delivery → List (List Item)
ready_buffers t entries closed d =
    if d.fixed
    then buffer entries d ∷ ready_after t entries closed (taken_whole d)
    else ready_after t entries closed d

-- the last buffer, where it waits for more items or for the latency limit
abbrev pub unready_buffers : Terms → List (ℕ × Entry) → Bool → Delivery → List (List Item)
unready_buffers t entries closed d =
    let after = after_fixed d in
    if after.ended then [] else unready_of t.size (waiting_items entries after) closed

-- when the first item of the buffer after so many others is put, in rounds at these moments: that
-- of the round that comes first to it, but where it is held already
abbrev pub put_at_first : Delivery → ℕ → List ℕ → ℕ
put_at_first d before moments =
    if is_empty d || not (before == 0) then slice_index_or moments before 0 else d.since

-- when the first item of the held buffer is put, in a round at this moment
abbrev pub put_by : Delivery → ℕ → ℕ
put_by d now = if is_empty d then now else d.since

-- whether one of these moments is at or past this one plus the latency limit, where there is one
abbrev pub is_late_at : Terms → ℕ → List ℕ → Bool
is_late_at t since moments = list_any (λ now. is_late (limit_of t) since now) moments

-- whether the last buffer, where it isn't ready, is handed over by rounds at these moments: one
-- after those of the ready buffers is at or past the moment at which its first item was put plus
-- the latency limit
abbrev pub is_last_late : Terms → List (ℕ × Entry) → Bool → Delivery → List ℕ → Bool
is_last_late t entries closed d moments =
    let before = length (ready_buffers t entries closed d) in
    is_late_at t (put_at_first d before moments) (drop before moments)

-- the buffers that rounds at these moments hand over of picked entries that stay the same, where
-- each offer is taken whole: one a round of those that are ready; then the last one, once it is late
abbrev pub still_buffers : Terms → List (ℕ × Entry) → Bool → Delivery → List ℕ → List (List Item)
still_buffers t entries closed d moments =
    take (length moments) (ready_buffers t entries closed d)
    ++ (if is_last_late t entries closed d moments then unready_buffers t entries closed d else [])

-- whether these rounds are enough for all buffers that are left
abbrev pub are_enough : Terms → List (ℕ × Entry) → Bool → Delivery → List ℕ → Bool
are_enough t entries closed d moments =
    nat_le (length (ready_buffers t entries closed d)) (length moments)
    && (length (unready_buffers t entries closed d) == 0 || is_last_late t entries closed d moments)

-- ---- of an archive up to a front

abbrev pub ready_at : Terms → List Entry → ℕ → Delivery → List (List Item)
ready_at t entries front d =
    ready_buffers t (picked_at t entries front) (is_stop_closed t.selection (take front entries)) d

abbrev pub unready_at : Terms → List Entry → ℕ → Delivery → List (List Item)
unready_at t entries front d =
    unready_buffers t (picked_at t entries front) (is_stop_closed t.selection (take front entries)) d

abbrev pub still_buffers_at : Terms → List Entry → ℕ → Delivery → List ℕ → List (List Item)
still_buffers_at t entries front d moments =
    still_buffers t (picked_at t entries front)
    (is_stop_closed t.selection (take front entries)) d moments

abbrev pub are_enough_at : Terms → List Entry → ℕ → Delivery → List ℕ → Bool
are_enough_at t entries front d moments =
    are_enough t (picked_at t entries front)
    (is_stop_closed t.selection (take front entries)) d moments
