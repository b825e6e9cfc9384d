-- What two workers did.
use Rattle.std.specs.Prelude.{◌≡◌, ◌+◌, ◌<◌, ◌≤◌, List, [], ◌∷◌, ◌++◌, map, vec_len}
use Rattle.std.specs.Prelude.{vec_capacity, Some}
use Rattle.cds_time.specs.declared.cds.TheConstants.{MOMENT_END}
use Rattle.turn_lock.specs.PassState.{Lock}
use Rattle.turn_lock.specs.declared.view.Mark.{Mark}
use Rattle.turn_lock.specs.declared.pass.Standing.TheVariants.{Ready}
use Rattle.station_book.specs.State.{Opening, Event}
use Rattle.sample_book.specs.Jobs.{call_of}
use Rattle.sample_book.specs.Worked.{HasWorked, calls_of, outcomes_of}
use Rattle.sample_book.specs.declared.job.Job.{Job}
use Rattle.sample_book.specs.declared.job.Outcome.{Outcome}
use Rattle.sample_book.specs.declared.work.Plan.{Plan}
use Rattle.sample_book.specs.declared.work.Worker.{Worker}

-- a worker with a fresh pass of this lock, with turns and room for all of its jobs
pub record IsSeated (lock : Lock Opening) (w : Worker) : Type 0 where
  pub lock_is : w.pass.lock ≡ Some lock
  pub ready : w.pass.standing ≡ Ready
  pub own : w.pass.own ≡ []
  pub joined : w.pass.joined ≡ []
  pub turns : vec_len w.plan.jobs ≤ w.pass.left
  pub room : vec_len w.plan.jobs ≤ vec_capacity w.outcomes
  pub none : w.outcomes.items ≡ []
  pub moment : w.plan.reading < MOMENT_END

-- the worker did the first of its jobs
abbrev pub DidJobs : Lock Opening → Worker → Worker → Type 0
DidJobs lock old new =
    HasWorked lock old.plan.door old.plan.reading old.plan.jobs.items new.outcomes.items old.pass
    new.pass

-- own events are those of the first of a plan's jobs, in order, with these outcomes
pub record Did (plan : Plan) (outcomes : List Outcome) (own : List (Mark Event)) : Type 0 where
  pub done : List Job
  pub rest : List Job
  pub split : plan.jobs.items ≡ done ++ rest
  pub calls : calls_of own ≡ map (call_of plan.door plan.reading) done
  pub told : outcomes_of own ≡ outcomes

-- the lists that were joined are those of both workers
pub record DidBoth (first second : Plan) (one two : List Outcome)
    (joined : List (List (Mark Event))) : Type 0 where
  pub firsts : List (Mark Event)
  pub seconds : List (Mark Event)
  pub joined_are : joined ≡ firsts ∷ seconds ∷ []
  pub first_did : Did first one firsts
  pub second_did : Did second two seconds
