-- How a command ends: the number that its status is, and what it has written. This product's own
-- rules.
use Rattle.std.specs.Prelude.{◌≡◌, ◌⊎◌, ℕ, Option, List, Result, Ok, Err}
use Rattle.octet_core.specs.Fault.{count_up}
use Rattle.octet_core.specs.Written.{Gains, GainsFront}
use Rattle.script_store.specs.declared.stop.Stop.{Stop}
use Rattle.script_store.specs.declared.stop.Stop.TheVariants as stops
use Rattle.command_ends.specs.declared.status.Status.{Status}
use Rattle.command_ends.specs.declared.status.Status.TheVariants.{Done, Usage, BadLine, BadSite}
use Rattle.command_ends.specs.declared.status.Status.TheVariants.{ReadFault, WriteFault, Full}
use Rattle.command_ends.specs.declared.status.Status.TheVariants.{InputTooLong, Memory}
use Rattle.command_ends.specs.declared.status.Status.TheVariants.{ArchiveRefused, DiskFault}
use Rattle.command_ends.specs.Outside.{Outside}

-- a status as the program's exit code
abbrev pub code : Status → ℕ
code Done = 0
code Usage = 2
code BadLine = 3
code BadSite = 4
code ArchiveRefused = 5
code ReadFault = 6
code WriteFault = 7
code DiskFault = 8
code Full = 9
code InputTooLong = 11
code Memory = 70

-- A command that writes a text, and then ends with a status of its own: all of the text was
-- written; the output failed, once; or memory was refused.
abbrev pub Closes : Option (List ℕ) → Option (List ℕ) → ℕ → ℕ → List ℕ → Status → ℕ → Type 0
Closes before after faults_before faults_after text own exit =
    ((exit ≡ code own) × Gains before after text × (faults_after ≡ faults_before))
    ⊎ ((exit ≡ code WriteFault) × GainsFront before after text
    × (faults_after ≡ count_up faults_before))
    ⊎ ((exit ≡ code Memory) × GainsFront before after text × (faults_after ≡ faults_before))

-- the status of a command whose writing ended so
abbrev pub closed : Result (Unit {0}) Stop → Status → Status
closed (Ok _) own = own
closed (Err stops.WriteFault) own = WriteFault
closed (Err stops.Memory) own = Memory

-- A command that has the whole of its text before it writes: all of it was written, or the output
-- failed, once.
abbrev pub Tells : Option (List ℕ) → Option (List ℕ) → ℕ → ℕ → List ℕ → Status → ℕ → Type 0
Tells before after faults_before faults_after text own exit =
    ((exit ≡ code own) × Gains before after text × (faults_after ≡ faults_before))
    ⊎ ((exit ≡ code WriteFault) × GainsFront before after text
    × (faults_after ≡ count_up faults_before))

-- memory was refused before the first write
abbrev pub IsUntold : Option (List ℕ) → Option (List ℕ) → ℕ → ℕ → ℕ → Type 0
IsUntold before after faults_before faults_after exit =
    (exit ≡ code Memory) × (after ≡ before) × (faults_after ≡ faults_before)

-- no read was made
pub record IsUnread (before after : Outside) : Type 0 where
  pub left : after.left ≡ before.left
  pub faults : after.read_faults ≡ before.read_faults
