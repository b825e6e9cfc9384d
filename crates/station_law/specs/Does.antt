-- What the call of a line does, by the step that the line takes.
use Rattle.std.specs.Prelude.{◌≡◌, ℕ, Option, List, Result, IfOk, OnOk, OnErr, IsErrOf}
use Rattle.script_store.specs.declared.outcome.Outcome.{Outcome}
use Rattle.script_store.specs.declared.step_done.StepDone.{StepDone}
use Rattle.script_store.specs.declared.stop.Stop.{Stop}
use Rattle.script_store.specs.declared.stop.Stop.TheVariants.{WriteFault}
use Rattle.station_law.specs.State.{State}
use Rattle.script_store.specs.Said.{Said, texts}
use Rattle.script_store.specs.Answer.{Answer}
use Rattle.station_law.specs.Runs.{in_store}
use Rattle.script_store.specs.Output.{Wrote}
use Rattle.script_store.specs.Outcomes.{said_of, done_of}
use Rattle.script_store.specs.Stopped.{IsStopped}
use Rattle.station_law.specs.Standing.{Seen, Stands, HasDone}

-- a step was taken: this is what it says, and how it ends, and the world stands behind it
pub record IsTaken (answer : State → Answer State) (old new : Seen) (said : List Said)
    (done : StepDone) : Type 0 where
  pub says : (state : State) → Stands old state → said ≡ (answer state).said
  pub ends : (state : State) → Stands old state → done ≡ (answer state).done
  pub next : (state : State) → Stands old state → HasDone (answer state) new

-- want of memory stopped a step: all of it was stored, or nothing published
abbrev pub Stops : (State → Answer State) → Seen → Seen → Type 0
Stops answer old new = (state : State) → Stands old state
    → IsStopped old.recorder (in_store (answer state)) new.recorder

-- a step was taken, of which the outcome tells, or was stopped
pub record Steps {E : Type 0} (answer : State → Answer State) (old new : Seen)
    (result : Result Outcome E) : Type 0 where
  pub taken : IfOk result (λ outcome. IsTaken answer old new (said_of outcome) (done_of outcome))
  pub stopped : OnErr result (Stops answer old new)

-- A line's step was taken, and its text written; the step stays taken where the text can't be
-- written. Or the line was stopped.
pub record Does (answer : State → Answer State) (old new : Seen) (before after : Option (List ℕ))
    (faults_before faults_after : ℕ) (result : Result StepDone Stop) : Type 0 where
  pub written : (state : State) → Stands old state
      → Wrote before after faults_before faults_after (texts (answer state).said) result
  pub done : IfOk result (λ done. (state : State) → Stands old state
      → done ≡ (answer state).done)
  pub next : OnOk result ((state : State) → Stands old state → HasDone (answer state) new)
  pub write_fault : IsErrOf result WriteFault → (state : State) → Stands old state
      → HasDone (answer state) new
  pub stopped : OnErr result (Stops answer old new)
