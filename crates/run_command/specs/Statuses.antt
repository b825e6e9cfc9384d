-- How a run ends. This product's own rules.
use Rattle.std.specs.Prelude.{ℕ, Bool, true, false, ◌||◌, nat_lt, if◌then◌else◌, Result, Ok, Err, List}
use Rattle.std.specs.List.{list_any}
use Rattle.antenna_turns.specs.declared.radiating.Radiated.{Radiated}
use Rattle.antenna_turns.specs.declared.radiating.TurnsSpent.{TurnsSpent}
use Rattle.frame_archive.specs.declared.fault.ArchiveFault.{ArchiveFault}
use Rattle.frame_archive.specs.declared.fault.ArchiveFault.TheVariants as archive
use Rattle.recorder_turns.specs.declared.tally.Tally.{Tally}
use Rattle.recorder_turns.specs.declared.recording_fault.RecordingFault.{RecordingFault}
use Rattle.recorder_turns.specs.declared.recording_fault.RecordingFault.TheVariants as recording
use Rattle.station_seats.specs.declared.report.DoorReport.{DoorReport}
use Rattle.station_run.specs.declared.report.StartFault.{StartFault}
use Rattle.station_run.specs.declared.report.StartFault.TheVariants as start
use Rattle.run_command.specs.declared.status.RunStatus.{RunStatus}
use Rattle.run_command.specs.declared.status.RunStatus.TheVariants as status

-- a status as the program's exit code
abbrev pub code_of : RunStatus → ℕ
code_of status.Done = 0
code_of (status.BadSite number cause) = 4
code_of (status.Refused place) = 5
code_of (status.Changed expected found) = 5
code_of status.ReadFault = 6
code_of status.WriteFault = 7
code_of status.DiskFault = 8
code_of status.Full = 9
code_of status.TurnsSpent = 10
code_of status.InputTooLong = 11
code_of status.Memory = 70

-- a station that didn't start
abbrev pub started_with : StartFault → RunStatus
started_with (start.NotJournal place) = status.Refused place
started_with (start.Damaged place) = status.Refused place
started_with start.DiskFault = status.DiskFault
started_with start.Memory = status.Memory

-- an archive that was refused when it was opened again
abbrev pub refused_with : ArchiveFault → RunStatus
refused_with (archive.NotJournal place) = status.Refused place
refused_with (archive.Damaged place) = status.Refused place
refused_with (archive.Changed expected found) = status.Changed expected found
refused_with archive.DiskFault = status.DiskFault
refused_with archive.Stale = status.Memory
refused_with archive.Memory = status.Memory

-- whether memory was refused to a door's worker, its door failed, or its turns were spent
abbrev pub any_memory : List DoorReport → Bool
any_memory doors = list_any (λ door. door.memory) doors

abbrev pub any_failed : List DoorReport → Bool
any_failed doors = list_any (λ door. door.failed) doors

abbrev pub any_spent : List DoorReport → Bool
any_spent doors = list_any (λ door. door.spent) doors

abbrev pub is_spent : Result Radiated TurnsSpent → Bool
is_spent (Ok radiated) = false
is_spent (Err spent) = true

-- the status that the recorder gives, where doors failed, and where turns of another worker were
-- spent
abbrev pub recorded_with : Result Tally RecordingFault → Bool → Bool → RunStatus
recorded_with (Err recording.Memory) failed spent = status.Memory
recorded_with (Err recording.Foreign) failed spent = status.Memory
recorded_with (Err recording.DiskFault) failed spent = status.DiskFault
recorded_with (Err (recording.Refused fault)) failed spent = refused_with fault
recorded_with (Err recording.SourceFault) failed spent = status.ReadFault
recorded_with (Err recording.TurnsSpent) true spent = status.ReadFault
recorded_with (Err recording.TurnsSpent) false spent = status.TurnsSpent
recorded_with (Ok tally) true spent = status.ReadFault
recorded_with (Ok tally) false true = status.TurnsSpent
recorded_with (Ok tally) false false = if nat_lt 0 tally.full then status.Full else status.Done

-- The status of a run: the first of want of memory, a fault of the disk, an archive that is refused,
-- a source or a door that failed, turns that were spent, and an entry refused as Full.
abbrev pub run_status : Result Tally RecordingFault → Result Radiated TurnsSpent → List DoorReport
    → RunStatus
run_status ended radiating doors =
    if any_memory doors then status.Memory
    else recorded_with ended (any_failed doors) (is_spent radiating || any_spent doors)
