-- What `rehearse` promises.
use Rattle.std.specs.Prelude.{ℕ, ◌≤◌, ◌⊎◌, Option, List}
use Rattle.rehearsal.specs.Rehearsal.{text}
use Rattle.rehearsal.specs.Script.{IsOfScript}
use Rattle.command_ends.specs.declared.status.Status.TheVariants.{Done}
use Rattle.command_ends.specs.Ends.{Tells, IsUntold}

-- By its exit code: the whole text of a rehearsal of so many frames was written, or what begins it
-- where the output failed, or nothing where memory was refused. Of this text the frames are those
-- that the world behind scripts stores, and the messages those of its transcript.
pub record IsRehearsal (n : ℕ) (before after : Option (List ℕ))
    (faults_before faults_after exit : ℕ) : Type 0 where
  pub tells : Tells before after faults_before faults_after (text n) Done exit
      ⊎ IsUntold before after faults_before faults_after exit
  pub script : 1 ≤ n → n ≤ 20000 → IsOfScript n
