-- What a look at the archive gives: the picked entries that a delivery wants next, and what status
-- reports tell. This product's own.
use Rattle.std.specs.Prelude.{ℕ, ◌+◌, Bool, ◌&&◌, nat_lt, nat_le, Option, List, [], map, length}
use Rattle.std.specs.Prelude.{take, false, ℤ}
use Rattle.std.specs.List.{filter, fold, sum, prefix_len, enumerate_from}
use Rattle.archive_terms.specs.Archive.{Entry, frame, loss_of_sync, production}
use Rattle.archive_terms.specs.Selection.{Selection, picked, is_stop_closed}
use Rattle.archive_terms.specs.Delivery.{Item, archived_items, frame_octets}
use Rattle.archive_terms.specs.Continuity.{told_items}

-- what a START wants of its picked entries: from a place on, behind a frame that was handed over or
-- is held, so many of them, and up to the one with which so many octets of frames are reached
pub record Wanted : Type 0 where
  pub selection : Selection
  pub place : ℕ
  pub since : Option ℕ
  pub room : ℕ
  pub octets : ℕ

-- a look wants nothing, the front alone, or picked entries
pub data Want : Type 0 where
  wants_nothing : Want
  wants_front : Want
  wants_items : Wanted → Want

-- the picked entries from a place on
abbrev pub picked_from : List Entry → Selection → ℕ → List (ℕ × Entry)
picked_from entries s place = filter (λ x. nat_le place x.0) (picked entries s)

-- how many of the waiting entries are given, by the octets of their frames: they end with the room,
-- or with the one that reaches the wanted octets
abbrev pub given : ℕ → ℕ → List ℕ → ℕ
given room octets lengths =
    prefix_len (λ x. nat_lt x.0 room && nat_lt (sum (take x.0 lengths)) octets)
    (enumerate_from 0 lengths)

abbrev pub lengths_of : List (ℕ × Entry) → List ℕ
lengths_of entries = map frame_octets (archived_items entries)

-- the picked entries that are given
abbrev pub given_of : List Entry → Wanted → List (ℕ × Entry)
given_of entries w =
    let waiting = picked_from entries w.selection w.place in
    take (given w.room w.octets (lengths_of waiting)) waiting

-- the place behind the last of some entries, or the one before them
abbrev pub place_behind : ℕ → List (ℕ × Entry) → ℕ
place_behind place entries = fold (λ _ x. x.0 + 1) place entries

-- the lock statuses of a status report (CCSDS 911.1-B, RAF-STATUS-REPORT), each from 0 to 3
pub record Locks : Type 0 where
  pub frame_sync : ℕ
  pub symbol : ℕ
  pub subcarrier : ℕ
  pub carrier : ℕ

abbrev pub all_locks : ℕ → Locks
all_locks status = record {
  frame_sync = status;
  symbol = status;
  subcarrier = status;
  carrier = status;
}

-- after a frame all are in lock (0); after a loss frame synchronisation is lost (1), and the others
-- are the loss's own
abbrev pub locks_after : Locks → Entry → Locks
locks_after locks (frame _) = all_locks 0
locks_after locks (loss_of_sync l) =
    record { frame_sync = 1; symbol = l.symbol; subcarrier = l.subcarrier; carrier = l.carrier }
locks_after locks _ = locks

-- with neither a frame nor a loss they are unknown (3)
abbrev pub locks : List Entry → Locks
locks entries = fold locks_after (all_locks 3) entries

-- the last production status, running (0) where there is none
abbrev pub production_after : ℕ → Entry → ℕ
production_after status (production new) = new
production_after status _ = status

abbrev pub production_status : List Entry → ℕ
production_status entries = fold production_after 0 entries

-- what a look gives: how many entries are published; the wanted items, each with its continuity;
-- the place behind them; whether a picked one remains; whether the stop is known and closed; and
-- the statuses of a report
pub record Glimpse : Type 0 where
  pub front : ℕ
  pub items : List (Item × Option ℤ)
  pub next : ℕ
  pub more : Bool
  pub closed : Bool
  pub locks : Locks
  pub production : ℕ

abbrev pub without_items : List Entry → Glimpse
without_items entries = record {
  front = length entries;
  items = [];
  next = 0;
  more = false;
  closed = false;
  locks = locks entries;
  production = production_status entries;
}

abbrev pub glimpse : List Entry → Want → Glimpse
glimpse entries wants_nothing = without_items entries
glimpse entries wants_front = without_items entries
glimpse entries (wants_items w) = record (without_items entries) {
  items = told_items entries w.since (archived_items (given_of entries w));
  next = place_behind w.place (given_of entries w);
  more = nat_lt (length (given_of entries w)) (length (picked_from entries w.selection w.place));
  closed = is_stop_closed w.selection entries;
}
