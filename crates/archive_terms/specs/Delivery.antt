-- How the picked entries of a START go out in transfer buffers (CCSDS 911.1-B,
-- RAF-TRANSFER-BUFFER). The order of the steps of a round is this product's own.
use Rattle.std.specs.Prelude.{◌≡◌, ℕ, ◌+◌, ◌-◌, ◌<◌, ◌≤◌, Bool, true, false, not, ◌&&◌, ◌||◌, ◌==◌}
use Rattle.std.specs.Prelude.{nat_lt, nat_le, if◌then◌else◌, Option, Some, None, is_none, List, []}
use Rattle.std.specs.Prelude.{◌∷◌, ◌++◌, map, length, take, drop}
use Rattle.std.specs.List.{list_any, filter, filter_map, enumerate_from, sum_by, prefix_len}
use Rattle.std.specs.Option.{option_map_or, option_to_list}
use Rattle.archive_terms.specs.Archive.{Entry, frame}
use Rattle.archive_terms.specs.Selection.{Filter, Selection, is_notice}
use Rattle.archive_terms.specs.declared.limits.TheConstants.{FULL_BUFFER, LONGEST_FRAME}

-- the modes of a service instance (CCSDS 911.1-B, delivery-mode)
pub data Mode : Type 0 where
  timely : Mode
  complete : Mode
  offline : Mode

abbrev pub is_timely : Mode → Bool
is_timely timely = true
is_timely _ = false

abbrev pub is_online : Mode → Bool
is_online offline = false
is_online _ = true

-- the first position of a START: 0 where a complete or offline one has a known start time, else the
-- number of entries that the archive had when the START was taken (this product's own)
abbrev pub first_position : Mode → Option ℕ → ℕ → ℕ
first_position timely start front = front
first_position mode None front = front
first_position mode (Some _) front = 0

-- the selection that a START makes, with its start and stop time where known, of an archive that
-- had so many entries when it was taken: online modes alone tell notices
abbrev pub selection_of : Mode → Filter → Option ℕ → Option ℕ → ℕ → Selection
selection_of mode filter start stop front = record {
  filter = filter;
  start = start;
  stop = stop;
  first = first_position mode start front;
  notices = is_online mode;
}

-- an item of a transfer buffer: a picked entry with its place, which is a frame, a loss of
-- synchronisation or a production change; the notice that data was discarded due to excessive
-- backlog; the notice of end of data
pub data Item : Type 0 where
  archived : ℕ → Entry → Item
  backlog : Item
  end_of_data : Item

abbrev pub archived_items : List (ℕ × Entry) → List Item
archived_items entries = map (λ x. archived x.0 x.1) entries

abbrev pub archived_of : Item → Option (ℕ × Entry)
archived_of (archived place entry) = Some (place, entry)
archived_of _ = None

-- the picked entries among items
abbrev pub entries_of : List Item → List (ℕ × Entry)
entries_of items = filter_map archived_of items

abbrev pub is_archived : Item → Bool
is_archived (archived _ _) = true
is_archived _ = false

abbrev pub is_backlog : Item → Bool
is_backlog backlog = true
is_backlog _ = false

abbrev pub is_end_of_data : Item → Bool
is_end_of_data end_of_data = true
is_end_of_data _ = false

-- a loss of synchronisation or a production change, behind which nothing goes into a buffer
abbrev pub is_notice_item : Item → Bool
is_notice_item (archived _ entry) = is_notice entry
is_notice_item _ = false

-- a notification (CCSDS 911.1-B, RAF-SYNC-NOTIFY), which isn't to wait for a fuller buffer
abbrev pub is_notification : Item → Bool
is_notification (archived _ entry) = is_notice entry
is_notification _ = true

abbrev pub frame_octets : Item → ℕ
frame_octets (archived _ (frame f)) = length f.octets
frame_octets _ = 0

-- what a buffer holds, in numbers: how many items, how many octets of frames, whether a
-- notification is among them, and when the first one was put
pub record Contents : Type 0 where
  pub count : ℕ
  pub octets : ℕ
  pub notified : Bool
  pub since : ℕ

-- a buffer is full with `size` items, or with 524,288 or more octets of frames (the octets are this
-- product's own)
abbrev pub is_full_of : ℕ → ℕ → ℕ → Bool
is_full_of size count octets = nat_le size count || nat_le FULL_BUFFER octets

-- whether a latency limit, where there is one, has passed
abbrev pub is_late : Option ℕ → ℕ → ℕ → Bool
is_late limit since now = option_map_or (λ latency. nat_le latency (now - since)) limit false

-- a buffer that holds anything is due where it holds a notification, is full, has waited for the
-- latency limit, or is the last one before a closed stop
abbrev pub is_due_of : ℕ → Option ℕ → ℕ → Bool → Contents → Bool
is_due_of size limit now last c =
    nat_lt 0 c.count && (c.notified || is_full_of size c.count c.octets || is_late limit c.since now
    || last)

abbrev pub contents : ℕ → List Item → Contents
contents since items = record {
  count = length items;
  octets = sum_by frame_octets items;
  notified = list_any is_notification items;
  since = since;
}

abbrev pub is_full : ℕ → List Item → Bool
is_full size items = is_full_of size (length items) (sum_by frame_octets items)

-- a buffer takes no further item once it is full or holds a loss or a production change
abbrev pub is_complete : ℕ → List Item → Bool
is_complete size items = is_full size items || list_any is_notice_item items

-- a frame of at most 65,536 octets
abbrev pub is_short_frame : Item → Bool
is_short_frame (archived _ (frame f)) = nat_le (length f.octets) LONGEST_FRAME
is_short_frame _ = false

-- how many of the waiting items a buffer takes: the greatest number of which no proper prefix is
-- complete
abbrev pub buffer_length : ℕ → List Item → ℕ
buffer_length size items = prefix_len (λ x. not (is_complete size (take x.0 items)))
    (enumerate_from 0 items)

-- no proper prefix of a buffer is complete, so that it has at most `size` items and none behind a
-- loss, a production change or the item that made it full
pub record IsBuffer (size : ℕ) (items : List Item) : Type 0 where
  pub few : length items ≤ size
  pub open_before : (j : ℕ) → j < length items → is_complete size (take j items) ≡ false

-- items cut into buffers, with `held` in the first one: a buffer ends with the item that makes it
-- complete
abbrev pub cut_onto : ℕ → List Item → List Item → List (List Item)
cut_onto size [] [] = []
cut_onto size [] (item ∷ held) = (item ∷ held) ∷ []
cut_onto size (item ∷ items) held =
    if is_complete size (held ++ item ∷ [])
    then (held ++ item ∷ []) ∷ cut_onto size items []
    else cut_onto size items (held ++ item ∷ [])

-- all buffers are complete but perhaps the last
abbrev pub cut : ℕ → List Item → List (List Item)
cut size items = cut_onto size items []

-- the buffers that an offline delivery of these picked entries hands over where each offer is
-- taken: with a closed stop all of them and end of data, else those that are complete
abbrev pub offline_buffers : ℕ → List (ℕ × Entry) → Bool → List (List Item)
offline_buffers size entries closed =
    if closed
    then cut size (archived_items entries) ++ (end_of_data ∷ []) ∷ []
    else filter (is_complete size) (cut size (archived_items entries))

-- all that a START is to hand over of these picked entries: their items, and end of data where the
-- stop is closed
abbrev pub all_items : List (ℕ × Entry) → Bool → List Item
all_items entries closed = archived_items entries ++ (if closed then end_of_data ∷ [] else [])

-- the terms of a delivery: mode, buffer size in items, latency limit in picoseconds, and the
-- START's selection
pub record Terms : Type 0 where
  pub mode : Mode
  pub size : ℕ
  pub latency : ℕ
  pub selection : Selection

-- a delivery has so many picked entries settled and so many held after them; it knows what heads
-- the held buffer (backlog or end of data), whether a backlog is owed, whether the buffer is fixed,
-- when its first item was put, and whether it ended
pub record Delivery : Type 0 where
  pub settled : ℕ
  pub held : ℕ
  pub head : Option Item
  pub owed : Bool
  pub fixed : Bool
  pub since : ℕ
  pub ended : Bool

-- the latency limit counts for online modes alone
abbrev pub limit_of : Terms → Option ℕ
limit_of t = if is_online t.mode then Some t.latency else None

-- the delivery at START
abbrev pub started : Delivery
started = record {
  settled = 0;
  held = 0;
  head = None;
  owed = false;
  fixed = false;
  since = 0;
  ended = false;
}

-- what it holds of the picked entries
abbrev pub buffer : List (ℕ × Entry) → Delivery → List Item
buffer entries d = option_to_list d.head ++ archived_items (take d.held (drop d.settled entries))

abbrev pub is_empty : Delivery → Bool
is_empty d = is_none d.head && d.held == 0

-- where nothing is held and a backlog is owed, it is the head
abbrev pub with_backlog : Delivery → Delivery
with_backlog d = record d { head = if d.owed && is_empty d then Some backlog else d.head }

-- behind the head as many picked entries are held as the buffer takes
abbrev pub with_entries : ℕ → List (ℕ × Entry) → Delivery → Delivery
with_entries size entries d =
    let head = option_to_list d.head in
    record d {
      held = buffer_length size (head ++ archived_items (drop d.settled entries)) - length
          head;
    }

-- where the buffer was empty before and isn't now, its first item was put at this moment
abbrev pub put_at : ℕ → Delivery → Delivery → Delivery
put_at now before d = record d {
  since = if is_empty before && not (is_empty d) then now
      else d.since;
}

abbrev pub filled : Terms → List (ℕ × Entry) → ℕ → Delivery → Delivery
filled t entries now d = put_at now d (with_entries t.size entries (with_backlog d))

-- where nothing is held, the stop is closed, all is settled and the delivery hasn't ended, end of
-- data alone is held
abbrev pub with_end : List (ℕ × Entry) → Bool → Delivery → Delivery
with_end entries closed d =
    record d {
      head =
          if not d.ended && is_empty d && closed
          && d.settled == length entries then Some end_of_data else d.head;
    }

-- whether the held buffer is due
abbrev pub is_due : Terms → List (ℕ × Entry) → Bool → ℕ → Delivery → Bool
is_due t entries closed now d =
    is_due_of t.size (limit_of t) now (closed && d.settled + d.held == length entries)
    (contents d.since (buffer entries d))

abbrev pub with_due_fixed : Terms → List (ℕ × Entry) → Bool → ℕ → Delivery → Delivery
with_due_fixed t entries closed now d = record d { fixed = is_due t entries closed now d }

-- a step, with the picked entries of the front, whether the stop is known and closed there, and the
-- moment: a fixed buffer stays as it is; else the buffer is filled, and fixed where it is due
abbrev pub stepped : Terms → List (ℕ × Entry) → Bool → ℕ → Delivery → Delivery
stepped t entries closed now d =
    if d.fixed then d else with_due_fixed t entries closed now
    (with_end entries closed (filled t entries now d))

-- the held buffer is settled, and the next one is begun
abbrev pub released : Delivery → Delivery
released d = record d { settled = d.settled + d.held; held = 0; head = None; fixed = false }

abbrev pub has_head : (Item → Bool) → Delivery → Bool
has_head is_kind d = option_map_or is_kind d.head false

-- an offer taken whole: the backlog in it is no longer owed, and end of data ends the delivery
abbrev pub taken_whole : Delivery → Delivery
taken_whole d =
    record (released d) {
      owed = d.owed && not (has_head is_backlog d);
      ended = d.ended || has_head is_end_of_data d;
    }

-- a timely delivery discards a stalled buffer that has a picked entry
abbrev pub is_discardable : Mode → Delivery → Bool
is_discardable mode d = is_timely mode && nat_lt 0 d.held

-- a stalled offer: a buffer that isn't discarded stays fixed; a discarded one leaves a backlog owed
abbrev pub stalled : Mode → Delivery → Delivery
stalled mode d = if is_discardable mode d then record (released d) { owed = true } else d
