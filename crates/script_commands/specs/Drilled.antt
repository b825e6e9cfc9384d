-- How a drill ends: by its status what it has written, which call failed, and what its script is.
-- This product's own rules.
use Rattle.std.specs.Prelude.{◌≡◌, ◌⊎◌, ℕ, ◌<◌, ◌≤◌, IfSome, List, ◌∷◌, ◌++◌, [], length, codes}
use Rattle.octet_core.specs.Fault.{count_up, Rose}
use Rattle.octet_core.specs.Written.{Gains, GainsFront}
use Rattle.command_ends.specs.declared.status.Status.{Status}
use Rattle.command_ends.specs.declared.status.Status.TheVariants.{Done, Usage, BadLine, BadSite}
use Rattle.command_ends.specs.declared.status.Status.TheVariants.{ReadFault, WriteFault, Full}
use Rattle.command_ends.specs.declared.status.Status.TheVariants.{InputTooLong, Memory}
use Rattle.command_ends.specs.declared.status.Status.TheVariants.{ArchiveRefused, DiskFault}
use Rattle.script_head.specs.Lines.{lines_of}
use Rattle.command_ends.specs.Outside.{Outside}
use Rattle.script_head.specs.Lines.{most_octets}
use Rattle.script_commands.specs.Script.{script_of, script_text, status_of}

-- the text of a script, and the status that it ends with
abbrev pub text_by : List ℕ → List ℕ
text_by script = script_text (script_of (lines_of script))

abbrev pub status_by : List ℕ → Status
status_by script = status_of (script_of (lines_of script))

-- all of a text was written, or what begins it
abbrev pub GainsAll : Outside → Outside → List ℕ → Type 0
GainsAll before after text = Gains before.written after.written text

abbrev pub GainsSome : Outside → Outside → List ℕ → Type 0
GainsSome before after text = GainsFront before.written after.written text

-- a status's own line was written, or what begins it by a call that failed
abbrev pub GainsLine : Outside → Outside → List ℕ → Type 0
GainsLine before after line =
    (GainsAll before after line × (after.write_faults ≡ before.write_faults))
    ⊎ (GainsSome before after line × (after.write_faults ≡ count_up before.write_faults))

-- The script was run to its end; the output failed, or memory was refused, while it ran or before;
-- the input failed, or holds too much, and nothing was run; or a drill doesn't end so.
pub data DrillOutcome : Type 0 where
  ran : DrillOutcome
  cut_off : DrillOutcome
  given_up : DrillOutcome
  unread : DrillOutcome
  too_long : DrillOutcome
  never : DrillOutcome

abbrev pub ended : Status → DrillOutcome
ended Done = ran
ended BadLine = ran
ended BadSite = ran
ended Full = ran
ended WriteFault = cut_off
ended Memory = given_up
ended ReadFault = unread
ended InputTooLong = too_long
ended Usage = never
ended ArchiveRefused = never
ended DiskFault = never

-- What was written: the script's text, or what begins it; or a line, which stands alone.
abbrev pub HasText : Outside → Outside → DrillOutcome → Type 0
HasText before after ran = IfSome before.left (λ script. GainsAll before after (text_by script))
HasText before after cut_off =
    IfSome before.left (λ script. GainsSome before after (text_by script))
HasText before after given_up =
    IfSome before.left (λ script. GainsSome before after (text_by script))
HasText before after unread = GainsLine before after (codes "read fault" ++ 10 ∷ [])
HasText before after too_long = GainsLine before after (codes "input too long" ++ 10 ∷ [])
HasText before after never = ⊥

-- how often a read failed, by the input's count of faults
abbrev pub HasReads : Outside → Outside → DrillOutcome → Type 0
HasReads before after unread = after.read_faults ≡ count_up before.read_faults
HasReads before after _ = after.read_faults ≡ before.read_faults

-- How often a write failed, by the output's count of faults: of a line that stands alone once or
-- never.
abbrev pub HasWrites : Outside → Outside → DrillOutcome → Type 0
HasWrites before after cut_off = after.write_faults ≡ count_up before.write_faults
HasWrites before after unread =
    (after.write_faults ≡ before.write_faults) ⊎ (after.write_faults ≡ count_up before.write_faults)
HasWrites before after too_long =
    (after.write_faults ≡ before.write_faults) ⊎ (after.write_faults ≡ count_up before.write_faults)
HasWrites before after _ = after.write_faults ≡ before.write_faults

-- What the script is: one that isn't too long and ends with this status, one that isn't too long,
-- or one that is.
abbrev pub HasScript : Outside → Status → DrillOutcome → Type 0
HasScript before status ran =
    IfSome before.left
    (λ script. (length script ≤ most_octets) × (status_by script ≡ status))
HasScript before status cut_off = IfSome before.left (λ script. length script ≤ most_octets)
HasScript before status too_long = IfSome before.left (λ script. most_octets < length script)
HasScript before status _ = Unit {0}

-- Completeness: a script that is short enough ends with its own status, or memory is wanted, where
-- no count rises.
abbrev pub Completes : Outside → Outside → Status → Type 0
Completes before after status =
    IfSome before.left (λ script. length script ≤ most_octets
    → ¬ Rose before.read_faults after.read_faults → ¬ Rose before.write_faults after.write_faults
    → (status ≡ status_by script) ⊎ (status ≡ Memory))

-- what was written, which calls failed, and what the script is
pub record Drilled (before after : Outside) (status : Status) : Type 0 where
  pub text : HasText before after (ended status)
  pub reads : HasReads before after (ended status)
  pub writes : HasWrites before after (ended status)
  pub script : HasScript before status (ended status)
