-- A delivery that remembers a place and a last frame, and steps on glimpses: what is counted in the
-- picked list becomes places. This product's own.
use Rattle.std.specs.Prelude.{ℕ, ◌-◌, Bool, true, false, not, ◌&&◌, ◌||◌, ◌==◌, if◌then◌else◌, ℤ}
use Rattle.std.specs.Prelude.{Option, Some, None, List, [], ◌∷◌, ◌++◌, map, length, take}
use Rattle.std.specs.List.{list_any, sum_by}
use Rattle.std.specs.Option.{option_map_or}
use Rattle.archive_terms.specs.Archive.{Entry}
use Rattle.archive_terms.specs.Delivery.{is_timely, Item, backlog, end_of_data, entries_of}
use Rattle.archive_terms.specs.Delivery.{is_archived, is_backlog, is_end_of_data, frame_octets}
use Rattle.archive_terms.specs.Delivery.{buffer_length, Terms, limit_of, is_due_of, contents}
use Rattle.archive_terms.specs.Continuity.{last_frame}
use Rattle.archive_terms.specs.Rounds.{Answer, whole, stall, fail, Round, Outcome, nothing, handed}
use Rattle.archive_terms.specs.Rounds.{kept, discarded, failed, takes_step, answer_on, is_failed}
use Rattle.archive_terms.specs.Glimpse.{Want, wants_nothing, wants_items, place_behind, Glimpse}
use Rattle.archive_terms.specs.Glimpse.{glimpse}
use Rattle.archive_terms.specs.declared.limits.TheConstants.{FULL_BUFFER}

-- an item as it is told
abbrev pub ToldItem : Type 0
ToldItem = Item × Option ℤ

abbrev pub items_of : List ToldItem → List Item
items_of told = map (λ x. x.0) told

-- the place behind the last picked entry that was put; the place of the last frame that was handed
-- over; what is held; whether a backlog is owed, whether the buffer is fixed, when its first item
-- was put, and whether the delivery ended
pub record Placed : Type 0 where
  pub place : ℕ
  pub last : Option ℕ
  pub held : List ToldItem
  pub owed : Bool
  pub fixed : Bool
  pub since : ℕ
  pub ended : Bool

-- the delivery at START, from the selection's first position on
abbrev pub placed_at_start : Terms → Placed
placed_at_start t =
    record {
      place = t.selection.first;
      last = None;
      held = [];
      owed = false;
      fixed = false;
      since = 0;
      ended = false;
    }

-- where nothing is held and a backlog is owed, it is the head
abbrev pub with_head : Placed → List ToldItem
with_head p = if p.owed && length p.held == 0 then (backlog, None) ∷ [] else p.held

-- what it wants of the next look: nothing where a buffer is fixed or it ended
abbrev pub want_of : Terms → Placed → Want
want_of t p =
    if p.fixed || p.ended
    then wants_nothing
    else wants_items (record {
      selection = t.selection;
      place = p.place;
      since = last_frame p.last (items_of (with_head p));
      room = t.size - length (with_head p);
      octets = FULL_BUFFER - sum_by frame_octets (items_of (with_head p));
    })

-- how many of a glimpse's items the buffer takes
abbrev pub taken_of : Terms → Glimpse → Placed → ℕ
taken_of t g p = buffer_length t.size (items_of (with_head p) ++ items_of g.items) - length
    (with_head p)

-- the buffer is filled, and its first item put at this moment where it was empty before
abbrev pub with_items : Terms → Glimpse → ℕ → Placed → Placed
with_items t g now p =
    let put = take (taken_of t g p) g.items in
    let held = with_head p ++ put in
    record p {
      place = place_behind p.place (entries_of (items_of put));
      held = held;
      since = if length p.held == 0 && not (length held == 0) then now else p.since;
    }

-- whether all that is picked was put
abbrev pub is_all_put : Terms → Glimpse → Placed → Bool
is_all_put t g p = not g.more && taken_of t g p == length g.items

abbrev pub with_end_alone : Bool → Placed → Placed
with_end_alone last p = record p {
  held = if length p.held == 0
      && last then (end_of_data, None) ∷ [] else p.held;
}

abbrev pub fixed_where_due : Terms → Bool → ℕ → Placed → Placed
fixed_where_due t last now p =
    record p { fixed = is_due_of t.size (limit_of t) now last (contents p.since (items_of p.held)) }

-- a step on a glimpse
abbrev pub placed_step : Terms → Glimpse → ℕ → Placed → Placed
placed_step t g now p =
    let last = g.closed && is_all_put t g p in
    if p.fixed || p.ended then p else fixed_where_due t last now
    (with_end_alone last (with_items t g now p))

-- the answer of the link
abbrev pub emptied : Placed → Placed
emptied p = record p { held = []; fixed = false }

abbrev pub placed_answered : Terms → Answer → Placed → Placed
placed_answered t whole p =
    record (emptied p) {
      last = last_frame p.last (items_of p.held);
      owed = p.owed && not (list_any is_backlog (items_of p.held));
      ended = list_any is_end_of_data (items_of p.held);
    }
placed_answered t stall p =
    if is_timely t.mode && list_any is_archived (items_of p.held) then record (emptied p) {
      owed =
          true;
    } else p
placed_answered t fail p = p

-- ---- rounds

-- the delivery after its step of a round
abbrev pub placed_at_round : Terms → List Entry → Round → Placed → Placed
placed_at_round t entries r p =
    if takes_step r.link then placed_step t (glimpse (take r.front entries) (want_of t p)) r.now p
    else p

abbrev pub placed_answer_at : Round → Placed → Option Answer
placed_answer_at r p = if p.fixed then answer_on r.link else None

abbrev pub placed_after_round : Terms → List Entry → Round → Placed → Placed
placed_after_round t entries r p =
    let after = placed_at_round t entries r p in
    option_map_or (λ answer. placed_answered t answer after) (placed_answer_at r after) after

-- what a round did, and the items that it handed over as they are told
abbrev pub placed_fate : Terms → Answer → List Item → Outcome
placed_fate t whole items = handed items
placed_fate t stall items = if is_timely t.mode && list_any is_archived items then discarded items
    else kept items
placed_fate t fail items = failed items

abbrev pub told_where : Answer → List ToldItem → Option (List ToldItem)
told_where whole told = Some told
told_where _ told = None

abbrev pub placed_outcome : Terms → List Entry → Round → Placed → Outcome × Option (List ToldItem)
placed_outcome t entries r p =
    let after = placed_at_round t entries r p in (
      option_map_or (λ answer. placed_fate t answer (items_of after.held))
          (placed_answer_at r after) nothing,
      option_map_or (λ answer. told_where answer after.held) (placed_answer_at r after) None,
    )

-- over a list of rounds, up to the first in which the link failed
abbrev pub placed_outcomes : Terms → List Entry → List Round → Placed
    → List (Outcome × Option (List ToldItem))
placed_outcomes t entries [] p = []
placed_outcomes t entries (r ∷ rounds) p =
    placed_outcome t entries r p
    ∷ (if is_failed r.link (placed_answer_at r (placed_at_round t entries r p))
    then []
    else placed_outcomes t entries rounds (placed_after_round t entries r p))
