-- The turns of a run's workers, each with what that worker did off the lock right before it and
-- right behind it, as events of a world. This product's own.
use Rattle.std.specs.Prelude.{◌≡◌, ◌==◌, ℕ, Bool, true, false, not, ◌||◌, List, [], ◌∷◌, ◌++◌}
use Rattle.std.specs.Prelude.{length, map, IsTrue}
use Rattle.std.specs.List.{filter, flat_map, list_all, AllByRecursion}
use Rattle.archive_terms.specs.Archive.{Entry}
use Rattle.station_book.specs.State.{Call, publish, gone, Event as Answered}
use Rattle.recorder.specs.declared.recorded.Recorded.{Recorded}
use Rattle.antenna_turns.specs.Steps.{Step, looked, radiated, broke_off}
use Rattle.station_world.specs.Life.{is_take}
use Rattle.station_world.specs.World.{Event, offers, begins_store, ends_store, reopens, calls}
use Rattle.station_world.specs.World.{sends}
use Rattle.station_world.specs.Calls.{is_publishing}
use Rattle.run_events.specs.Stores.{Way, store_events, IsWay, Tail, tail_events}

-- a turn: its event in the book's history, and what its worker did before and behind it
pub record Turn : Type 0 where
  pub before : List Event
  pub answered : Answered
  pub behind : List Event

abbrev pub events_of_turn : Turn → List Event
events_of_turn t = t.before ++ calls t.answered.call ∷ t.behind

abbrev pub events_of : List Turn → List Event
events_of turns = flat_map events_of_turn turns

abbrev pub answered_in : List Turn → List Answered
answered_in turns = map (λ t. t.answered) turns

-- the turns with a call of some kind
abbrev pub turns_with : (Call → Bool) → List Turn → List Turn
turns_with kind turns = filter (λ t. kind t.answered.call) turns

-- ---- the recorder's turns

abbrev pub says_gone : ℕ → Call → Bool
says_gone number (gone worker) = worker == number
says_gone number _ = false

-- a recorder of this number publishes, and says that it is gone
abbrev pub is_recorders : ℕ → Call → Bool
is_recorders number call = is_publishing call || says_gone number call

-- The turn of a step, behind so many entries of the archive: what it stored is published, and was
-- stored right before.
pub record PublishesIn (had : List Entry) (step : Recorded) (t : Turn) : Type 0 where
  pub call : t.answered.call ≡ publish step.entries
  pub way : Way
  pub is_way : IsWay step.reopened (length had) (length step.entries) way
  pub before : t.before ≡ store_events way step.entries
  pub behind : t.behind ≡ []

-- The recorder's last turn, right behind a step that it didn't end.
pub record LeavesIn (number : ℕ) (tail : Tail) (t : Turn) : Type 0 where
  pub call : t.answered.call ≡ gone number
  pub before : t.before ≡ tail_events tail
  pub behind : t.behind ≡ []

-- Its turns, one for each good step, and the last one.
abbrev pub RecordsIn : ℕ → List Entry → List Recorded → Tail → List Turn → Type 0
RecordsIn number had [] tail (t ∷ []) = LeavesIn number tail t
RecordsIn number had (step ∷ steps) tail (t ∷ turns) =
    PublishesIn had step t × RecordsIn number (had ++ step.entries) steps tail turns
RecordsIn number had _ tail _ = ⊥

-- ---- the antenna's turns

-- a step's take, and what stands right behind it: the send of what it gave, good or not
abbrev pub take_in : Step → Answered
take_in (looked m) = m.event
take_in (radiated m octets n) = m.event
take_in (broke_off m octets n) = m.event

abbrev pub sends_in : Step → List Event
sends_in (looked m) = []
sends_in (radiated m octets n) = sends true ∷ []
sends_in (broke_off m octets n) = sends false ∷ []

pub record TakesIn (step : Step) (t : Turn) : Type 0 where
  pub before : t.before ≡ []
  pub is_take : t.answered ≡ take_in step
  pub behind : t.behind ≡ sends_in step

-- one for each step
abbrev pub RadiatesIn : List Step → List Turn → Type 0
RadiatesIn [] [] = Unit {0}
RadiatesIn (step ∷ steps) (t ∷ turns) = TakesIn step t × RadiatesIn steps turns
RadiatesIn _ _ = ⊥

-- ---- all turns

-- Beside a turn stand acts on the archive and sends alone, and so no call of the book.
abbrev pub is_beside : Event → Bool
is_beside (offers entry) = true
is_beside begins_store = true
is_beside (ends_store good) = true
is_beside (reopens finding) = true
is_beside (sends good) = true
is_beside _ = false

abbrev pub StandsBeside : Turn → Type 0
StandsBeside t = IsTrue (list_all is_beside t.before) × IsTrue (list_all is_beside t.behind)

-- nothing stands beside it
abbrev pub IsAlone : Turn → Type 0
IsAlone t = (t.before ≡ []) × (t.behind ≡ [])

abbrev pub is_others : ℕ → Call → Bool
is_others number call = not (is_recorders number call || is_take call)

-- The turns of a run, behind the entries that its archive had: each of the recorder's is right
-- behind what was stored for it, and each take right before the send of what it gave.
pub record AreTurns (number : ℕ) (had : List Entry) (recorded : List Recorded) (tail : Tail)
    (steps : List Step) (turns : List Turn) : Type 0 where
  pub recorder : RecordsIn number had recorded tail (turns_with (is_recorders number) turns)
  pub antenna : RadiatesIn steps (turns_with is_take turns)
  pub others : AllByRecursion IsAlone (turns_with (is_others number) turns)
  pub beside : AllByRecursion StandsBeside turns
