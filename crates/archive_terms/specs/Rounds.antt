-- A delivery over the rounds of its session: what was offered, and what became of it.
use Rattle.std.specs.Prelude.{◌≡◌, ℕ, ◌≤◌, Bool, true, false, not, IsTrue, if◌then◌else◌, Option}
use Rattle.std.specs.Prelude.{Some, None, List, [], ◌∷◌, length, take, drop, slice_get}
use Rattle.std.specs.List.{All, filter, list_any, list_all, flat_map, filter_map, after_last}
use Rattle.std.specs.Option.{is_some, option_or, option_map_or}
use Rattle.archive_terms.specs.Archive.{Entry}
use Rattle.archive_terms.specs.Selection.{picked, is_stop_closed}
use Rattle.archive_terms.specs.Delivery.{Item, all_items, Terms, Delivery, is_archived, is_backlog}
use Rattle.archive_terms.specs.Delivery.{buffer, stepped, taken_whole, stalled, is_discardable}

-- the answers of a link to an offer
pub data Answer : Type 0 where
  whole : Answer
  stall : Answer
  fail : Answer

-- what a round finds on its link: a block of an earlier round that waits still, a block of its own
-- that waits, no block, and then the answer to a buffer that is offered; or a link that failed
-- before
pub data Link : Type 0 where
  blocked : Link
  waiting : Link
  free : Answer → Link
  broken : Link

-- a round of a delivery: how many entries are published, the moment, and its link
pub record Round : Type 0 where
  pub front : ℕ
  pub now : ℕ
  pub link : Link

-- a round in which no block waits and an offer is taken whole
abbrev pub free_round : ℕ → ℕ → Round
free_round front now = record { front = front; now = now; link = free whole }

-- what a round did: the buffer that it offered, with the link's answer, and the buffer that it
-- discarded
pub record Outcome : Type 0 where
  pub offer : Option (List Item × Answer)
  pub dropped : Option (List Item)

-- it offered nothing; it handed a buffer over, had it stalled and kept it, had it stalled and
-- discarded it; its link failed
abbrev pub nothing : Outcome
nothing = record { offer = None; dropped = None }

abbrev pub handed : List Item → Outcome
handed items = record { offer = Some (items, whole); dropped = None }

abbrev pub kept : List Item → Outcome
kept items = record { offer = Some (items, stall); dropped = None }

abbrev pub discarded : List Item → Outcome
discarded items = record { offer = Some (items, stall); dropped = Some items }

abbrev pub failed : List Item → Outcome
failed items = record { offer = Some (items, fail); dropped = None }

-- what a START picks up to a front
abbrev pub picked_at : Terms → List Entry → ℕ → List (ℕ × Entry)
picked_at t entries front = picked (take front entries) t.selection

-- a round takes a step of the delivery but where a block of an earlier round waits or the link
-- failed
abbrev pub takes_step : Link → Bool
takes_step blocked = false
takes_step broken = false
takes_step _ = true

-- the delivery after its step of a round
abbrev pub at_round : Terms → List Entry → Round → Delivery → Delivery
at_round t entries r d =
    if takes_step r.link
    then stepped t (picked_at t entries r.front) (is_stop_closed t.selection (take r.front entries))
    r.now d
    else d

-- the answer to a buffer that is offered: a fixed one, where no block waits
abbrev pub answer_on : Link → Option Answer
answer_on (free answer) = Some answer
answer_on _ = None

abbrev pub answer_at : Round → Delivery → Option Answer
answer_at r d = if d.fixed then answer_on r.link else None

abbrev pub answered : Terms → Answer → Delivery → Delivery
answered t whole d = taken_whole d
answered t stall d = stalled t.mode d
answered t fail d = d

abbrev pub fate : Terms → Answer → Delivery → List Item → Outcome
fate t whole d items = handed items
fate t stall d items = if is_discardable t.mode d then discarded items else kept items
fate t fail d items = failed items

-- the delivery after a round, and what the round did
abbrev pub after_round : Terms → List Entry → Round → Delivery → Delivery
after_round t entries r d =
    let after = at_round t entries r d in
    option_map_or (λ answer. answered t answer after) (answer_at r after) after

abbrev pub outcome : Terms → List Entry → Round → Delivery → Outcome
outcome t entries r d =
    let after = at_round t entries r d in
    option_map_or (λ answer. fate t answer after (buffer (picked_at t entries r.front) after))
    (answer_at r after) nothing

-- a link that failed ends the run
abbrev pub is_failed : Link → Option Answer → Bool
is_failed broken _ = true
is_failed _ (Some fail) = true
is_failed _ _ = false

abbrev pub ends_run : Terms → List Entry → Round → Delivery → Bool
ends_run t entries r d = is_failed r.link (answer_at r (at_round t entries r d))

-- over a list of rounds, whose fronts are places in one archive
abbrev pub after_rounds : Terms → List Entry → List Round → Delivery → Delivery
after_rounds t entries [] d = d
after_rounds t entries (r ∷ rounds) d =
    if ends_run t entries r d then after_round t entries r d
    else after_rounds t entries rounds (after_round t entries r d)

abbrev pub outcomes : Terms → List Entry → List Round → Delivery → List Outcome
outcomes t entries [] d = []
outcomes t entries (r ∷ rounds) d =
    outcome t entries r d
    ∷ (if ends_run t entries r d then [] else outcomes t entries rounds (after_round t entries r d))

abbrev pub taken : Option (List Item × Answer) → Option (List Item)
taken (Some (items, whole)) = Some items
taken _ = None

-- the buffer that was handed over, and the one that was handed over or discarded
abbrev pub handed_buffer : Outcome → Option (List Item)
handed_buffer o = taken o.offer

abbrev pub settled_buffer : Outcome → Option (List Item)
settled_buffer o = option_or (handed_buffer o) o.dropped

abbrev pub items_in : Option (List Item) → List Item
items_in buffer = option_map_or (λ items. items) buffer []

-- the buffers that were handed over, in order
abbrev pub handed_buffers : List Outcome → List (List Item)
handed_buffers done = filter_map handed_buffer done

abbrev pub handed_in : Outcome → List Item
handed_in o = items_in (handed_buffer o)

-- the items that were handed over, in order
abbrev pub handed_items : List Outcome → List Item
handed_items done = flat_map handed_in done

abbrev pub settled_in : Outcome → List Item
settled_in o = items_in (settled_buffer o)

-- the items that were handed over or discarded, in order
abbrev pub settled_items : List Outcome → List Item
settled_items done = flat_map settled_in done

-- the fronts of rounds don't fall, from one on
abbrev pub FrontsRise : ℕ → List Round → Type 0
FrontsRise front [] = Unit {0}
FrontsRise front (r ∷ rounds) = (front ≤ r.front) × FrontsRise r.front rounds

abbrev pub last_front : ℕ → List Round → ℕ
last_front front [] = front
last_front front (r ∷ rounds) = last_front r.front rounds

-- what a START is to hand over of an archive
abbrev pub to_hand_over : Terms → List Entry → List Item
to_hand_over t entries = all_items (picked entries t.selection) (is_stop_closed t.selection entries)

abbrev pub without_backlog : List Item → List Item
without_backlog items = filter (λ item. not (is_backlog item)) items

abbrev pub begins_with_backlog : List Item → Bool
begins_with_backlog items = list_any is_backlog (take 1 items)

abbrev pub is_handed : Outcome → Bool
is_handed o = is_some (handed_buffer o)

abbrev pub is_discarded : Outcome → Bool
is_discarded o = is_some o.dropped

-- whether a buffer was discarded after the last one that was handed over
abbrev pub is_untold : List Outcome → Bool
is_untold done = list_any is_discarded (after_last is_handed done)

-- what is to be discarded of an offer: a buffer with a picked entry that the link answered with a
-- stall
abbrev pub to_discard : Option (List Item × Answer) → Option (List Item)
to_discard (Some (items, stall)) = if list_any is_archived items then Some items else None
to_discard _ = None

abbrev pub IsDiscardedRightly : Outcome → Type 0
IsDiscardedRightly o = o.dropped ≡ to_discard o.offer

abbrev pub has_no_later_backlog : List Item → Bool
has_no_later_backlog items = not (list_any is_backlog (drop 1 items))

-- the shape of what a timely delivery did (CCSDS 911.1-B, timely online delivery): what was handed
-- over and discarded is in order a prefix of what is to be handed over; a buffer was discarded in a
-- round exactly where it was offered in that round, the link stalled, and it has a picked entry; a
-- buffer handed over begins with a backlog exactly where one was discarded since the last buffer
-- handed over; and no other place holds a backlog
pub record TimelyShape (all : List Item) (done : List Outcome) : Type 0 where
  pub in_order : take (length (without_backlog (settled_items done))) all
      ≡ without_backlog (settled_items done)
  pub discarded_where_stalled : All IsDiscardedRightly done
  pub told : (i : ℕ) (o : Outcome) (items : List Item) → slice_get done i ≡ Some o
      → handed_buffer o ≡ Some items
      → begins_with_backlog items ≡ is_untold (take i done)
  pub nowhere_else : IsTrue (list_all has_no_later_backlog (handed_buffers done))
