-- What a worker did.
use Rattle.std.specs.Prelude.{◌≡◌, ℕ, ◌+◌, List, [], ◌∷◌, ◌++◌, map, Some}
use mathlib.Core.List.{IsPrefix}
use Rattle.turn_lock.specs.PassState.{PassState, Lock}
use Rattle.turn_lock.specs.Own.{mark}
use Rattle.turn_lock.specs.declared.view.Mark.{Mark}
use Rattle.turn_lock.specs.declared.pass.Standing.TheVariants.{Ready}
use Rattle.station_book.specs.State.{Opening, opened, Call, Event}
use Rattle.station_book.specs.History.{event_at, replay, IsLegal}
use Rattle.sample_book.specs.Jobs.{call_of, outcome_of}
use Rattle.sample_book.specs.declared.job.Job.{Job}
use Rattle.sample_book.specs.declared.job.Outcome.{Outcome}

-- the event of a call that one thread makes after the events of this list
abbrev pub called : Opening → List Event → Call → Event
called o before call = event_at (replay (opened o) before) call

-- the pass made one call, with this outcome, after the events of some list that begins with all
-- that it had seen
pub record MadeOne (o : Opening) (call : Call) (outcome : Outcome)
    (old new : PassState Event Opening) : Type 0 where
  pub before : List Event
  pub later : IsPrefix old.seen before
  pub seen : new.seen ≡ before ++ called o before call ∷ []
  pub own : new.own ≡ old.own ++ mark before (called o before call) ∷ []
  pub told : outcome ≡ outcome_of (called o before call).reply

abbrev pub calls_of : List (Mark Event) → List Call
calls_of ms = map (λ m. m.event.call) ms

abbrev pub outcomes_of : List (Mark Event) → List Outcome
outcomes_of ms = map (λ m. outcome_of m.event.reply) ms

-- the pass's own events gained those of these jobs, in order, with these outcomes, one for each
-- turn
pub record Worked (lock : Lock Opening) (door reading : ℕ) (done : List Job)
    (outcomes : List Outcome) (old new : PassState Event Opening) : Type 0 where
  pub lock_is : new.lock ≡ Some lock
  pub ready : new.standing ≡ Ready
  pub joined : new.joined ≡ old.joined
  pub gained : List (Mark Event)
  pub own : new.own ≡ old.own ++ gained
  pub calls : calls_of gained ≡ map (call_of door reading) done
  pub told : outcomes_of gained ≡ outcomes
  pub legal : IsLegal (opened lock.origin) old.seen → IsLegal (opened lock.origin) new.seen

-- the pass did the first of these jobs, and has the turns that it had
pub record HasWorked (lock : Lock Opening) (door reading : ℕ) (jobs : List Job)
    (outcomes : List Outcome) (old new : PassState Event Opening) : Type 0 where
  pub done : List Job
  pub rest : List Job
  pub split : jobs ≡ done ++ rest
  pub turns : new.left + new.entered ≡ old.left + old.entered
  pub worked : Worked lock door reading done outcomes old new
