-- How a run ends: what it has written, its exit code, and what came of its station. This product's
-- own rules.
use Rattle.std.specs.Prelude.{◌≡◌, ◌⊎◌, ℕ, Option, List}
use Rattle.octet_core.specs.Fault.{count_up}
use Rattle.octet_core.specs.Written.{Gains, GainsFront}
use Rattle.disk_model.specs.Images.{Pending}
use Rattle.station_config.specs.declared.site.Site.{Site}
use Rattle.disk_model.specs.declared.call.Call.{Call as DiskCall}
use Rattle.station_run.specs.Ran.{RefusesStart, LeavesDisk}
use Rattle.station_run.specs.declared.report.RunReport.{RunReport}
use Rattle.station_run.specs.declared.report.StartFault.{StartFault}
use Rattle.run_command.specs.Configured.{NoSite, Configures}
use Rattle.run_command.specs.Statuses.{code_of, run_status, started_with}
use Rattle.run_command.specs.Texts.{radiated_count, run_text, status_text}
use Rattle.run_command.specs.declared.status.RunStatus.{RunStatus}
use Rattle.run_command.specs.declared.status.RunStatus.TheVariants as status

-- the status of a run whose text can't be written: want of memory stands
abbrev pub unwritten : RunStatus → RunStatus
unwritten status.Memory = status.Memory
unwritten _ = status.WriteFault

-- A run that writes a text at its end, and has this status: all of the text was written; the output
-- failed, once; or memory was refused before the write.
abbrev pub Writes : Option (List ℕ) → Option (List ℕ) → ℕ → ℕ → List ℕ → RunStatus → ℕ → Type 0
Writes before after faults_before faults_after text own exit =
    ((exit ≡ code_of own) × Gains before after text × (faults_after ≡ faults_before))
    ⊎ ((exit ≡ code_of (unwritten own)) × GainsFront before after text
    × (faults_after ≡ count_up faults_before))
    ⊎ ((exit ≡ code_of status.Memory) × (after ≡ before) × (faults_after ≡ faults_before))

-- A run whose workers weren't started writes the line of its status.
abbrev pub EndsBefore : Option (List ℕ) → Option (List ℕ) → ℕ → ℕ → RunStatus → ℕ → Type 0
EndsBefore before after faults_before faults_after own exit =
    Writes before after faults_before faults_after (status_text own) own exit

-- the status of a run of this report
abbrev pub status_by : RunReport → RunStatus
status_by report = run_status report.recording report.radiating report.doors.items

-- A run whose workers were started writes what they did and the line of its status.
abbrev pub EndsBehind : Option (List ℕ) → Option (List ℕ) → ℕ → ℕ → RunReport → ℕ → Type 0
EndsBehind before after faults_before faults_after report exit =
    Writes before after faults_before faults_after
    (run_text report.published (radiated_count report.radiating) report.doors.items
    (status_by report)) (status_by report) exit

-- Why the workers of a run weren't started: its input, with so much left and these counts of faults
-- before and after, configures no site, and the disk is as it was; or the station of its site
-- doesn't start over the disk, of which no image is another one than before.
abbrev pub NotStarted : {D : Type 0} → (D → Option Pending) → (D → ℕ) → (D → ℕ)
    → (D → ℕ → List ℕ → Type 0) → (D → DiskCall → D → Type 0) → (D → DiskCall → D → Type 0)
    → (D → D → Type 0) → Option (List ℕ) → ℕ → ℕ → D → D → RunStatus → Type 0
NotStarted pending faults moment images_since makes fails fails_to_read left before after disk
    disk_now own =
    (NoSite own left before after × (disk_now ≡ disk))
    ⊎ ((site : Site) × (fault : StartFault) × Configures left site × (after ≡ before)
    × (own ≡ started_with fault)
    × RefusesStart fault (pending disk) (faults disk) (faults disk_now)
    × LeavesDisk pending moment images_since makes fails fails_to_read fault disk disk_now)
