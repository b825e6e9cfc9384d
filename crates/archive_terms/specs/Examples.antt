-- Small archives and runs, by which the definitions are tried.
use Rattle.std.specs.Prelude.{ℕ, ◌+◌, ◌*◌, ◌^◌, true, false, Some, None, List, [], ◌∷◌, ◌++◌, map}
use Rattle.cds_time.specs.declared.cds.Cds.{Cds}
use Rattle.cds_time.specs.declared.cds.Rest.TheVariants.{Micros}
use Rattle.archive_terms.specs.Archive.{Entry, frame, loss_of_sync, production, seal}
use Rattle.archive_terms.specs.Selection.{by_quality, by_channel, ChannelId, Selection}
use Rattle.archive_terms.specs.Delivery.{Mode, offline, selection_of, Terms}
use Rattle.archive_terms.specs.Glimpse.{Want, wants_items}
use Rattle.archive_terms.specs.Rounds.{stall, Link, free, Round, free_round}

-- a time of day, in milliseconds, of day 20,000, and its moment
abbrev pub time_of : ℕ → Cds
time_of millis = record { days = 20000; millis = millis; rest = Micros 0 }

abbrev pub day_time : ℕ → ℕ
day_time millis = (20000 * 86400000 + millis) * 10 ^ 9

-- a frame from the antenna "A": time, quality, frames lost before it, octets
abbrev pub frame_of : ℕ → ℕ → ℕ → List ℕ → Entry
frame_of millis quality lost octets =
    frame (record {
      ert = time_of millis;
      quality = quality;
      antenna = 65 ∷ [];
      lost = lost;
      octets = octets;
    })

-- a good TM frame of spacecraft 1
abbrev pub small_frame : ℕ → ℕ → Entry
small_frame millis octet = frame_of millis 0 0 (0 ∷ 16 ∷ octet ∷ [])

abbrev pub first : Entry
first = small_frame 1000 161

abbrev pub second : Entry
second = small_frame 2000 162

abbrev pub third : Entry
third = small_frame 3000 163

-- three frames, and a seal at the time of the last
abbrev pub sealed : List Entry
sealed = first ∷ second ∷ third ∷ seal (time_of 3000) ∷ []

-- a TM frame of spacecraft 7, and two AOS frames of spacecraft 1 on its channel 63, the second one
-- erred
abbrev pub mixed : List Entry
mixed =
    frame_of 500 0 0 (0 ∷ 126 ∷ 160 ∷ []) ∷ frame_of 1000 0 0 (64 ∷ 127 ∷ 161 ∷ [])
    ∷ frame_of 1500 1 0 (64 ∷ 127 ∷ 162 ∷ []) ∷ []

-- good frames with an erred one between them, each with frames lost before it
abbrev pub lossy : List Entry
lossy = frame_of 1000 0 7 (0 ∷ []) ∷ frame_of 2000 1 2 (0 ∷ []) ∷ frame_of 3000 0 3 (0 ∷ []) ∷ []

-- the most frames lost before each of three
abbrev pub lossiest : List Entry
lossiest = frame_of 1000 0 7 (0 ∷ []) ∷ frame_of 2000 1 16777215 (0 ∷ [])
    ∷ frame_of 3000 0 1 (0 ∷ []) ∷ []

-- production changes before a frame and behind the seal that closes its time, and a loss between
-- them
abbrev pub noted : List Entry
noted =
    production 0 ∷ first ∷ loss_of_sync (record {
      at = time_of 1500;
      carrier = 0;
      subcarrier = 0;
      symbol = 1;
    })
    ∷ seal (time_of 2000) ∷ production 1 ∷ []

-- the good frames of a channel
abbrev pub of_channel : ChannelId → Selection
of_channel channel = record {
  filter = by_channel channel;
  start = None;
  stop = None;
  first = 0;
  notices = false;
}

-- all frames and notices from one time to another
abbrev pub with_notices : ℕ → ℕ → Selection
with_notices start stop = record {
  filter = by_quality 2;
  start = Some (day_time start);
  stop = Some (day_time stop);
  first = 0;
  notices = true;
}

-- an offline START from one time to another for good frames, in buffers of two
abbrev pub from_to : ℕ → ℕ → Terms
from_to start stop = record {
  mode = offline;
  size = 2;
  latency = 0;
  selection = selection_of offline (by_quality 0) (Some (day_time start)) (Some (day_time stop)) 0;
}

-- an online START for all frames, with neither time, from the entry `first` on
abbrev pub all_from : Mode → ℕ → ℕ → ℕ → Terms
all_from mode size seconds first = record {
  mode = mode;
  size = size;
  latency = seconds * 10 ^ 12;
  selection = selection_of mode (by_quality 2) None None first;
}

abbrev pub round_on : Link → ℕ → ℕ → Round
round_on link front now = record { front = front; now = now; link = link }

abbrev pub stalled_round : ℕ → ℕ → Round
stalled_round front now = round_on (free stall) front now

abbrev pub nine : List ℕ
nine = 1 ∷ 2 ∷ 3 ∷ 4 ∷ 5 ∷ 6 ∷ 7 ∷ 8 ∷ 9 ∷ []

abbrev pub twenty : List ℕ
twenty = map (λ n. n + 0) nine ++ 10 ∷ map (λ n. n + 10) nine ++ 20 ∷ []

-- twenty frames, one every 400 ms
abbrev pub stream : List Entry
stream = map (λ n. small_frame (400 * n) n) twenty

-- a round at each of their times
abbrev pub rounds_of_stream : List Round
rounds_of_stream = map (λ n. free_round n (day_time (400 * n))) twenty

-- good frames up to a minute are wanted from a place on, so many of them and up to so many octets
abbrev pub wanted_from : ℕ → ℕ → ℕ → Want
wanted_from place room octets =
    wants_items (record {
      selection = (from_to 0 60000).selection;
      place = place;
      since = None;
      room = room;
      octets = octets;
    })
