-- A talk with its last line. This product's own.
use Rattle.std.specs.Prelude.{ℕ, Bool, Option, List}
use Rattle.cds_time.specs.declared.cds.Cds.{Cds}
use Rattle.link_model.specs.declared.call.Call.{Call}
use Rattle.user_show.specs.Ending.{EndsWith}
use Rattle.user_show.specs.declared.ending.Ending.{Ending}
use Rattle.user_task.specs.declared.task.Task.{Task}
use Rattle.user_talk.specs.Closing.{line_of, ending_of}
use Rattle.user_talk.specs.Running.{World, Talked}
use Rattle.user_talk.specs.declared.end.End.{End}

-- A task was talked over to its end, and then the last line was written.
pub record TalkedTo {L C E O : Type 0} (calls : L → Option (List Call)) (link_faults : L → ℕ)
    (readings : C → Option (List Cds)) (asks : E → Option (List Bool))
    (written : O → Option (List ℕ)) (output_faults : O → ℕ)
    (task : Task) (most : ℕ) (ending : Ending) (old new : World L C E O) : Type 0 where
  pub end : End
  pub before : O
  pub talked : Talked calls link_faults readings asks written output_faults task most end old
      (record new { output = before })
  pub closes : EndsWith (written before) (written new.output) (output_faults before)
      (output_faults new.output) (line_of end) (ending_of end) ending
