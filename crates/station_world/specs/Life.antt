-- A life of the station, from an opening of its archive to a power failure: its book, its STARTs
-- and what was sent, and what happens in it. This product's own.
use Rattle.std.specs.Prelude.{ℕ, zero, suc, Bool, true, false, if◌then◌else◌, Option, None}
use Rattle.std.specs.Prelude.{List, [], ◌∷◌, ◌++◌, length, map}
use Rattle.std.specs.List.{flat_map}
use Rattle.std.specs.Option.{option_to_list}
use Rattle.archive_terms.specs.Selection.{Filter}
use Rattle.archive_terms.specs.Delivery.{Mode, selection_of, Terms, started}
use Rattle.archive_terms.specs.Rounds.{Round, Outcome, outcomes}
use Rattle.cltu_queue.specs.Run.{Radiation}
use Rattle.station_book.specs.State.{Opening, opened, Event, Call, take}
use Rattle.station_book.specs.State as books
use Rattle.station_book.specs.History.{event_at, replay}
use Rattle.station_book.specs.Radiation.{radiation_by}

-- A START of a return service: its door, its terms, the rounds that were made since it was taken,
-- and whether it ended, by a STOP or with its session.
pub record Start : Type 0 where
  pub door : ℕ
  pub terms : Terms
  pub rounds : List Round
  pub ended : Bool

-- the octets of a take were sent, or the send failed, or nobody sent them
pub data Fate : Type 0 where
  sent : Fate
  failed : Fate
  unsent : Fate

-- a CLTU that was taken for radiation, and what became of its octets
pub record Try : Type 0 where
  pub radiation : Radiation
  pub fate : Fate

-- A life: the book's origin and its history, the STARTs in their order, the takes that radiated
-- with what became of them, and the last such take, where its octets may still be sent.
pub record Life : Type 0 where
  pub opening : Opening
  pub history : List Event
  pub starts : List Start
  pub tries : List Try
  pub to_send : Option Radiation

-- a life at its begin
abbrev pub born : Opening → Life
born o = record { opening = o; history = []; starts = []; tries = []; to_send = None }

-- its book is the replay of its history
abbrev pub book : Life → books.State
book l = replay (opened l.opening) l.history

-- what a START has done, by its rounds over what is published
abbrev pub done_by : Life → Start → List Outcome
done_by l s = outcomes s.terms (book l).published s.rounds started

-- the takes that radiated, in order
abbrev pub taken_to_radiate : Life → List Radiation
taken_to_radiate l = map (λ t. t.radiation) l.tries ++ option_to_list l.to_send

-- the octets of the takes whose send was good, in order
abbrev pub octets_by : Fate → Radiation → List (List ℕ)
octets_by sent r = r.octets ∷ []
octets_by _ r = []

abbrev pub octets_of : Try → List (List ℕ)
octets_of t = octets_by t.fate t.radiation

abbrev pub octets_sent : Life → List (List ℕ)
octets_sent l = flat_map octets_of l.tries

-- ---- what happens in it: the book and the antenna

abbrev pub is_take : Call → Bool
is_take (take reading) = true
is_take _ = false

-- what became of the octets that were to be sent
abbrev pub tried : Fate → Radiation → Try
tried fate r = record { radiation = r; fate = fate }

abbrev pub tries_with : Fate → Life → List Try
tries_with fate l = l.tries ++ map (tried fate) (option_to_list l.to_send)

-- what an event of the book gives to be radiated
abbrev pub radiated_by : Event → Option Radiation
radiated_by e = radiation_by e.moment e.reply

-- A call of the book is its next event. A take has its own octets to be sent, and the earlier
-- take's are sent no more.
abbrev pub called : Call → Life → Life
called call l = record l {
  history = l.history ++ event_at (book l) call ∷ [];
  tries = if is_take call then tries_with unsent l else l.tries;
  to_send = if is_take call then radiated_by (event_at (book l) call) else l.to_send;
}

-- the octets of the last take are sent, or the send fails; so they are sent at most once
abbrev pub fate_of : Bool → Fate
fate_of true = sent
fate_of false = failed

abbrev pub sent_with : Bool → Life → Life
sent_with good l = record l { tries = tries_with (fate_of good) l; to_send = None }

-- ---- what happens in it: STARTs

-- What a START asks for: its door; mode, buffer size and latency of its instance; filter, start and
-- stop time.
pub record Asked : Type 0 where
  pub door : ℕ
  pub mode : Mode
  pub size : ℕ
  pub latency : ℕ
  pub filter : Filter
  pub start : Option ℕ
  pub stop : Option ℕ

-- the terms of a START whose own round has this front
abbrev pub asked_terms : Asked → ℕ → Terms
asked_terms a front = record {
  mode = a.mode;
  size = a.size;
  latency = a.latency;
  selection = selection_of a.mode a.filter a.start a.stop front;
}

-- a START is taken, at the front of what is published now
abbrev pub begun : Asked → ℕ → Start
begun a front = record { door = a.door; terms = asked_terms a front; rounds = []; ended = false }

abbrev pub with_start : Life → Start → Life
with_start l s = record l { starts = l.starts ++ s ∷ [] }

abbrev pub taken : Asked → Life → Life
taken a l = with_start l (begun a (length (book l).published))

-- the START at a place of a list changes
abbrev pub change_at : ℕ → (Start → Start) → List Start → List Start
change_at place change [] = []
change_at zero change (s ∷ others) = change s ∷ others
change_at (suc place) change (s ∷ others) = s ∷ change_at place change others

abbrev pub changed : ℕ → (Start → Start) → Life → Life
changed place change l = record l { starts = change_at place change l.starts }

-- a round of it is over
abbrev pub with_round : Round → Start → Start
with_round r s = record s { rounds = s.rounds ++ r ∷ [] }

-- it ends
abbrev pub with_end : Start → Start
with_end s = record s { ended = true }
