-- What an antenna's worker came to. This product's own.
use Rattle.std.specs.Prelude.{◌≡◌, ℕ, ◌+◌, ◌<◌, Bool, true, Option, List, [], ◌∷◌, ◌++◌, length}
use Rattle.std.specs.Prelude.{Result, Ok, Err}
use Rattle.std.specs.List.{All, count_by}
use Rattle.cds_time.specs.declared.cds.Cds.{Cds}
use Rattle.octet_core.specs.Told.{Tells}
use Rattle.turn_lock.specs.PassState.{PassState, Lock}
use Rattle.turn_lock.specs.declared.view.Mark.{Mark}
use Rattle.cltu_queue.specs.declared.taken.Taken.{Taken}
use Rattle.cltu_queue.specs.declared.taken.Taken.TheVariants as taken
use Rattle.station_book.specs.State.{Opening, opened, Event}
use Rattle.station_book.specs.History.{replay, all_gone}
use Rattle.station_turns.specs.Gained.{Gains, events_of}
use Rattle.station_turns.specs.Reads.{Reads, readings_in}
use Rattle.antenna_turns.specs.Steps.{Step, looked, radiated, broke_off, IsStep, IsTake, marks_in}
use Rattle.antenna_turns.specs.Steps.{sent_in, is_radiated, is_broken_off, Raised}
use Rattle.antenna_turns.specs.declared.stepping.AntennaStep.{AntennaStep}
use Rattle.antenna_turns.specs.declared.stepping.AntennaStep.TheVariants.{Idle, Waits, Expired}
use Rattle.antenna_turns.specs.declared.stepping.AntennaStep.TheVariants.{Sent, Failed}
use Rattle.antenna_turns.specs.declared.radiating.Radiated.{Radiated}
use Rattle.antenna_turns.specs.declared.radiating.TurnsSpent.{TurnsSpent}

-- an antenna's worker: its antenna, its clock, and its pass
pub record AntennaState (A C : Type 0) : Type 0 where
  pub antenna : A
  pub clock : C
  pub pass : PassState Event Opening

abbrev pub worker : {A C : Type 0} → A → C → PassState Event Opening → AntennaState A C
worker antenna clock pass = record { antenna = antenna; clock = clock; pass = pass }

-- behind the events of this list all workers but the antenna's are gone
abbrev pub AllGone : Lock Opening → List Event → Type 0
AllGone lock before = all_gone (replay (opened lock.origin) before) ≡ true

-- The last event of a pass is a take that found nothing to radiate, behind the events of a list at
-- which all other workers were gone.
pub record FoundAllGone (lock : Lock Opening) (pass : PassState Event Opening) : Type 0 where
  pub before : List Event
  pub last : Event
  pub seen : pass.seen ≡ before ++ last ∷ []
  pub own : List (Mark Event)
  pub own_last : pass.own ≡ own ++ record { place = length before; event = last } ∷ []
  pub idle : IsTake taken.Idle last
  pub gone : AllGone lock before

-- a take that found no CLTU, and whether all other workers were gone then, come to this step
abbrev pub Rests : Taken → Bool → AntennaStep → Type 0
Rests found gone (Idle all_gone) = (found ≡ taken.Idle) × (all_gone ≡ gone)
Rests found gone (Waits until) = found ≡ taken.Waits until
Rests found gone (Expired id) = found ≡ taken.Expired id
Rests found gone (Sent id) = ⊥
Rests found gone (Failed id) = ⊥

-- so many steps radiated, and so many were broken off
abbrev pub CountsSteps : Radiated → List Step → Type 0
CountsSteps counts steps =
    (counts.sent ≡ count_by is_radiated steps) × (counts.failed ≡ count_by is_broken_off steps)

-- what a step was, by its answer
abbrev pub IsAnswered : AntennaStep → Step → Type 0
IsAnswered (Idle gone) (looked m) = IsTake taken.Idle m.event
IsAnswered (Waits until) (looked m) = IsTake (taken.Waits until) m.event
IsAnswered (Expired id) (looked m) = IsTake (taken.Expired id) m.event
IsAnswered (Sent id) (radiated m octets n) =
    (run : ℕ) × IsTake (taken.Radiate run id octets) m.event
IsAnswered (Failed id) (broke_off m octets n) =
    (run : ℕ) × IsTake (taken.Radiate run id octets) m.event
IsAnswered _ _ = ⊥

module _ {A C : Type 0} (sent : A → Option (List (List ℕ))) (faults : A → ℕ)
    (readings : C → Option (List Cds)) (lock : Lock Opening) where
  -- Steps of the worker, one after the other: the pass gained their events as its own, for one turn
  -- each, at the readings of the clock; the antenna sent the octets of those that were radiated,
  -- and its count of faults went up by one for each that was interrupted.
  pub record Works (steps : List Step) (old new : AntennaState A C) : Type 0 where
    pub right : All IsStep steps
    pub gains : Gains lock (length (marks_in steps)) (marks_in steps) old.pass new.pass
    pub reads : Reads (readings old.clock) (readings new.clock)
        (readings_in (events_of (marks_in steps)))
    pub sends : Tells (sent old.antenna) (sent new.antenna) (sent_in steps)
    pub fails : Raised (count_by is_broken_off steps) (faults old.antenna) (faults new.antenna)

  -- One step, which was answered so. Where it found nothing to radiate, it says whether all other
  -- workers were gone.
  pub record WorksOnce (answer : AntennaStep) (old new : AntennaState A C) : Type 0 where
    pub step : Step
    pub works : Works (step ∷ []) old new
    pub answered : IsAnswered answer step
    pub gone : answer ≡ Idle true → FoundAllGone lock new.pass

  -- How the worker ended: all other workers were gone and nothing was left to radiate, or fewer than
  -- two turns were left.
  abbrev pub EndsSo : Result Radiated TurnsSpent → List Step → AntennaState A C → Type 0
  EndsSo (Ok counts) steps new = CountsSteps counts steps × FoundAllGone lock new.pass
  EndsSo (Err spent) steps new = CountsSteps spent.radiated steps × (new.pass.left < 2)

  -- The antenna's worker: steps until an end.
  pub record Radiates (result : Result Radiated TurnsSpent) (old new : AntennaState A C)
      : Type 0 where
    pub steps : List Step
    pub works : Works steps old new
    pub ended : EndsSo result steps new
