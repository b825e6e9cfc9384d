-- What `drill` promises.
use Rattle.std.specs.Prelude.{◌≡◌, ℕ}
use Rattle.command_ends.specs.declared.status.Status.{Status}
use Rattle.command_ends.specs.Ends.{code}
use Rattle.command_ends.specs.Outside.{Outside}
use Rattle.script_commands.specs.Drilled.{Drilled, Completes}

-- What it writes is exactly the text of the script on its input (`text_by`), or a prefix of that
-- text where a counted fault of the output cut it off, or where memory ran out; each status comes
-- for its cause alone. Without a fault a script ends with the status of its own (`status_by`), or
-- memory ran out. What the text of each script has in it is said of `text_by` alone (`IsLawful`).
pub record IsDrill (before after : Outside) (exit : ℕ) : Type 0 where
  pub status : Status
  pub exit_is : exit ≡ code status
  pub wrote : Drilled before after status
  pub complete : Completes before after status
