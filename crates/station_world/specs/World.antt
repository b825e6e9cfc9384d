-- World step: what happens to a station, one event after the other. This product's own.
use Rattle.std.specs.Prelude.{ℕ, Bool, if◌then◌else◌, Option, Some, None, List, [], ◌∷◌, ◌++◌, map}
use Rattle.std.specs.Option.{option_map, option_to_list}
use Rattle.archive_terms.specs.Archive.{Entry}
use Rattle.archive_terms.specs.Rounds.{Round}
use Rattle.station_book.specs.State.{Opening, Call}
use Rattle.station_world.specs.File.{File, made, with_offer, in_a_store, store_ended, Finding}
use Rattle.station_world.specs.File.{reopened, without_power, found_by, recovered}
use Rattle.station_world.specs.Life.{Life, born, Asked, called, taken, changed, with_round, with_end}
use Rattle.station_world.specs.Life.{sent_with}

-- A world: the archive's file; the lives that a power failure ended, and the one that goes on,
-- between a recovery and the next power failure; the moment that the clock reads; and what the
-- antenna was sent.
pub record World : Type 0 where
  pub file : File
  pub past : List Life
  pub now : Option Life
  pub clock : ℕ
  pub antenna : List (List ℕ)

-- the file was made, and nothing runs yet
abbrev pub before_all : World
before_all = record { file = made; past = []; now = None; clock = 0; antenna = [] }

-- all its lives
abbrev pub lives : World → List Life
lives w = w.past ++ option_to_list w.now

-- An entry is offered and taken. A store of all that waits begins; it ends, good or not. The file
-- is opened again. The book is called. A START is taken; a round of the START at a place is over;
-- that START ends. The octets of the last take are sent, good or not. The clock reads a moment. The
-- power fails, at any time. The archive is opened after a power failure, for a station whose book
-- opens so: each restart may have other instances, doors and rooms.
pub data Event : Type 0 where
  offers : Entry → Event
  begins_store : Event
  ends_store : Bool → Event
  reopens : Finding → Event
  calls : Call → Event
  starts : Asked → Event
  makes_round : ℕ → Round → Event
  ends_start : ℕ → Event
  sends : Bool → Event
  reads : ℕ → Event
  loses_power : Event
  restarts : Opening → Finding → Event

-- ---- what an event leaves

abbrev pub with_file : World → File → World
with_file w f = record w { file = f }

-- the life that goes on changes
abbrev pub with_life : World → (Life → Life) → World
with_life w change = record w { now = option_map change w.now }

abbrev pub octets_to_send : Option Life → List (List ℕ)
octets_to_send None = []
octets_to_send (Some l) = map (λ r. r.octets) (option_to_list l.to_send)

-- a send that is good is the antenna's last
abbrev pub with_send : World → Bool → World
with_send w good = record (with_life w (sent_with good)) {
  antenna = w.antenna ++ (if good then octets_to_send w.now else []);
}

-- the power fails: the life that went on is a past one
abbrev pub in_the_dark : World → World
in_the_dark w = record w { file = without_power w.file; past = lives w; now = None }

-- a recovery that finds entries begins a life, whose book has them; a refused one changes nothing
abbrev pub restarted : Opening → World → Option (List Entry) → World
restarted o w None = w
restarted o w (Some entries) = record w {
  file = recovered entries;
  now = Some (born (record o { entries = entries }));
}

-- the world behind an event
abbrev pub after_event : World → Event → World
after_event w (offers entry) = with_file w (with_offer w.file entry)
after_event w begins_store = with_file w (in_a_store w.file)
after_event w (ends_store good) = with_file w (store_ended w.file good)
after_event w (reopens finding) = with_file w (reopened w.file finding)
after_event w (calls call) = with_life w (called call)
after_event w (starts a) = with_life w (taken a)
after_event w (makes_round place r) = with_life w (changed place (with_round r))
after_event w (ends_start place) = with_life w (changed place with_end)
after_event w (sends good) = with_send w good
after_event w (reads moment) = record w { clock = moment }
after_event w loses_power = in_the_dark w
after_event w (restarts o finding) = restarted o w (found_by w.file finding)

abbrev pub after_events : World → List Event → World
after_events w [] = w
after_events w (e ∷ events) = after_events (after_event w e) events
