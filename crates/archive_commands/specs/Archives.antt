-- What `init` and `list` do with the file of a disk. This product's own rules.
use Rattle.std.specs.Prelude.{◌≡◌, ◌⊎◌, ℕ, ◌<◌, ◌≤◌, Option, None, unwrap_or, IfSome, IsSomeAnd}
use Rattle.std.specs.Prelude.{List, [], ◌∷◌}
use Rattle.std.specs.Prelude.{◌++◌, codes, Result, Ok, Err, IfOk, OnOk, OnErr}
use Rattle.std.specs.Fmt.{decimal}
use Rattle.std.specs.List.{flat_map}
use Rattle.octet_core.specs.Fault.{Rose}
use Rattle.archive_terms.specs.Archive.{Entry, frame, loss_of_sync, production, seal}
use Rattle.disk_model.specs.Images.{Pending}
use Rattle.disk_model.specs.Moments.{IsImageOf, HoldsThroughout}
use Rattle.sle_numbers.specs.Numbered.{of_number}
use Rattle.sle_numbers.specs.FrameQuality as qualities
use Rattle.sle_numbers.specs.LockStatus as locks
use Rattle.sle_numbers.specs.ReturnProductionStatus as productions
use Rattle.sle_numbers.specs.declared.frame_quality.FrameQuality.{FrameQuality}
use Rattle.sle_numbers.specs.declared.frame_quality.FrameQuality.TheVariants.{Undetermined}
use Rattle.sle_numbers.specs.declared.lock_status.LockStatus.{LockStatus}
use Rattle.sle_numbers.specs.declared.lock_status.LockStatus.TheVariants.{Unknown}
use Rattle.sle_numbers.specs.declared.return_production_status.ReturnProductionStatus.{ReturnProductionStatus}
use Rattle.sle_numbers.specs.declared.return_production_status.ReturnProductionStatus.TheVariants.{Halted}
use Rattle.record_form.specs.declared.entry.Entry as record_form
use Rattle.record_form.specs.declared.entry.Entry.TheVariants as entries
use Rattle.gate_journal.specs.declared.fault.JournalFault.{JournalFault}
use Rattle.gate_journal.specs.declared.fault.JournalFault.TheVariants as refusals
use Rattle.gate_journal.specs.declared.batch_fault.BatchFault.{BatchFault}
use Rattle.gate_journal.specs.declared.batch_fault.BatchFault.TheVariants as batches
use Rattle.gate_journal.specs.File.{StandsFor}
use Rattle.gate_journal.specs.JournalState.{Keeps, IsBegun}
use Rattle.gate_journal.specs.Reading.{IsNoJournal, IsDamagedAt}
use Rattle.drill_text.specs.Reading.{entry_text}
use Rattle.script_store.specs.Output.{Wrote}
use Rattle.script_store.specs.Steps.{Behind}
use Rattle.script_store.specs.declared.stop.Stop.{Stop}
use Rattle.script_store.specs.declared.stop.Stop.TheVariants as stops
use Rattle.archive_commands.specs.declared.ending.Ending.{Ending}
use Rattle.archive_commands.specs.declared.ending.Ending.TheVariants as endings
use Rattle.command_ends.specs.declared.status.Status.{Status}
use Rattle.command_ends.specs.declared.status.Status.TheVariants as ends
use Rattle.command_ends.specs.Ends.{Closes}

-- the line of a file that isn't an archive's, with the place
abbrev pub refused_line : ℕ → List ℕ
refused_line place = codes "archive refused " ++ decimal place ++ 10 ∷ []

-- ---- a new archive file

-- the file was made, it wasn't empty, the disk failed, or memory was refused before its first call
pub data InitOutcome : Type 0 where
  made : InitOutcome
  occupied : InitOutcome
  failed : InitOutcome
  unasked : InitOutcome

abbrev pub made_text : InitOutcome → List ℕ
made_text made = codes "made" ++ 10 ∷ []
made_text occupied = codes "archive refused 0" ++ 10 ∷ []
made_text failed = codes "disk fault" ++ 10 ∷ []
made_text unasked = []

abbrev pub made_status : InitOutcome → Status
made_status made = ends.Done
made_status occupied = ends.ArchiveRefused
made_status failed = ends.DiskFault
made_status unasked = ends.Memory

module _ {D : Type 0} (pending : D → Option Pending) (extent moment : D → ℕ)
    (images_since : D → ℕ → List ℕ → Type 0) (faults : D → ℕ) where
  -- At every moment of a file's making a crash leaves no more than the front of a new one, which
  -- stands for no entries.
  abbrev pub IsBegunThroughout : D → D → Type 0
  IsBegunThroughout old new = IfSome (pending old) (λ told. told.greatest ≤ 9)
      → HoldsThroughout moment images_since old new IsBegun

  -- A file is made on an empty disk alone, whose one image then stands for no entries; a disk that
  -- isn't empty is as it was; and one that failed was empty.
  abbrev pub LeavesMade : D → D → InitOutcome → Type 0
  LeavesMade old new made = (extent old ≡ 0)
      × IfSome (pending old) (λ _. Keeps (pending new) []) × IsBegunThroughout old new
  LeavesMade old new occupied = (0 < extent old) × (new ≡ old)
  LeavesMade old new failed = (extent old ≡ 0) × Rose (faults old) (faults new)
      × IsBegunThroughout old new
  LeavesMade old new unasked = new ≡ old

-- what `init` promises of a disk and an output, by its exit code
pub record IsInit {D : Type 0} (pending : D → Option Pending) (extent moment : D → ℕ)
    (images_since : D → ℕ → List ℕ → Type 0) (faults : D → ℕ) (old new : D)
    (before after : Option (List ℕ)) (faults_before faults_after exit : ℕ) : Type 0 where
  pub how : InitOutcome
  pub leaves : LeavesMade pending extent moment images_since faults old new how
  pub closes : Closes before after faults_before faults_after (made_text how) (made_status how) exit

-- ---- the entries of a file

-- the values of numbers that an archive holds, each of which is in its table
abbrev pub quality_at : ℕ → FrameQuality
quality_at n = unwrap_or (of_number qualities.number_of qualities.all n) Undetermined

abbrev pub lock_at : ℕ → LockStatus
lock_at n = unwrap_or (of_number locks.number_of locks.all n) Unknown

abbrev pub production_at : ℕ → ReturnProductionStatus
production_at n = unwrap_or (of_number productions.number_of productions.all n) Halted

-- the entry of an archive as the line of a script offers it
abbrev pub offered : Entry → record_form.Entry
offered (frame f) = entries.Frame f.ert (quality_at f.quality) f.antenna f.lost f.octets
offered (loss_of_sync l) =
    entries.LossOfSync l.at (lock_at l.carrier) (lock_at l.subcarrier) (lock_at l.symbol)
offered (production status) = entries.Production (production_at status)
offered (seal at) = entries.Seal at

-- entries as lines that offer them
abbrev pub entries_text : List Entry → List ℕ
entries_text entries = flat_map (λ entry. entry_text (offered entry)) entries

-- Of the octets that a block held, those that it holds no more were written, or the output failed
-- at them.
pub record Empties (before after : Option (List ℕ)) (faults_before faults_after : ℕ)
    (held left : List ℕ) (result : Result (Unit {0}) Stop) : Type 0 where
  pub text : List ℕ
  pub splits : held ≡ text ++ left
  pub wrote : Wrote before after faults_before faults_after text result

-- These entries were read; the file is refused at a place; the disk failed; or memory was refused
-- before all was read. Or, while the file was read again for their lines, behind those of these
-- entries the disk failed, memory was refused or the output failed, or the file was at this place
-- no longer of its form.
pub data ListOutcome : Type 0 where
  listed : List Entry → ListOutcome
  refused : ℕ → ListOutcome
  failed : ListOutcome
  unread : ListOutcome
  failed_behind : List Entry → ListOutcome
  stopped_behind : List Entry → ListOutcome
  changed_behind : List Entry → ℕ → ListOutcome

-- what a reading of the whole file that is refused tells
abbrev pub listed_by : JournalFault → ListOutcome
listed_by (refusals.NotJournal place) = refused place
listed_by (refusals.Damaged place) = refused place
listed_by refusals.DiskFault = failed
listed_by fault = unread

-- a reading is refused for its octets, a fault of the disk, or want of memory
abbrev pub IsOfReading : JournalFault → Type 0
IsOfReading (refusals.Full need free) = ⊥
IsOfReading refusals.Stale = ⊥
IsOfReading fault = Unit {0}

abbrev pub fault_line : List ℕ
fault_line = codes "disk fault" ++ 10 ∷ []

abbrev pub listed_text : ListOutcome → List ℕ
listed_text (listed entries) = entries_text entries
listed_text (refused place) = refused_line place
listed_text failed = fault_line
listed_text unread = []
listed_text (failed_behind entries) = entries_text entries ++ fault_line
listed_text (stopped_behind entries) = entries_text entries
listed_text (changed_behind entries place) = entries_text entries ++ refused_line place

abbrev pub listed_status : ListOutcome → Status
listed_status (listed entries) = ends.Done
listed_status (refused place) = ends.ArchiveRefused
listed_status failed = ends.DiskFault
listed_status unread = ends.Memory
listed_status (failed_behind entries) = ends.DiskFault
listed_status (stopped_behind entries) = ends.Memory
listed_status (changed_behind entries place) = ends.ArchiveRefused

-- where the disk tells, these entries are a front of those that its file stands for
abbrev pub IsFrontOf : Option Pending → List Entry → Type 0
IsFrontOf pending front = IfSome pending (λ told. (rest : List Entry)
    × StandsFor (front ++ rest) told.content)

-- The entries are those that the file stands for, and its one image stands for them then; a place
-- is that of the file's first fault; a disk failed only where its count of faults rose; and a file
-- that tells its octets isn't another one when it is read again.
abbrev pub LeavesListed : {D : Type 0} → (D → Option Pending) → (D → ℕ) → D → D → ListOutcome
    → Type 0
LeavesListed pending faults old new (listed entries) =
    IfSome (pending old) (λ told. StandsFor entries told.content × Keeps (pending new) entries)
LeavesListed pending faults old new (refused place) =
    IfSome (pending old) (λ told. IsNoJournal place told.content ⊎ IsDamagedAt place told.content)
LeavesListed pending faults old new failed = Rose (faults old) (faults new)
LeavesListed pending faults old new unread = Unit {0}
LeavesListed pending faults old new (failed_behind entries) = Rose (faults old) (faults new)
    × IsFrontOf (pending old) entries
LeavesListed pending faults old new (stopped_behind entries) = IsFrontOf (pending old) entries
LeavesListed pending faults old new (changed_behind entries place) = pending old ≡ None

-- the lines ended for the disk, the output or memory, and not for what the file holds
abbrev pub IsCutShort : ListOutcome → Type 0
IsCutShort (failed_behind entries) = Unit {0}
IsCutShort (stopped_behind entries) = Unit {0}
IsCutShort how = ⊥

-- What `list` promises of a disk and an output, by its exit code. Where the file stands for entries
-- it is not refused; and at each moment what a crash may leave is what it might have left before.
pub record IsList {D : Type 0} (pending : D → Option Pending) (moment : D → ℕ)
    (images_since : D → ℕ → List ℕ → Type 0) (faults : D → ℕ) (old new : D)
    (before after : Option (List ℕ)) (faults_before faults_after exit : ℕ) : Type 0 where
  pub how : ListOutcome
  pub leaves : LeavesListed pending faults old new how
  pub complete : (entries : List Entry)
      → IsSomeAnd (pending old) (λ told. StandsFor entries told.content)
      → (how ≡ listed entries) ⊎ (how ≡ unread) ⊎ (how ≡ failed) ⊎ IsCutShort how
  pub any_moment : HoldsThroughout moment images_since old new (IsImageOf (pending old))
  pub closes : Closes before after faults_before faults_after (listed_text how)
      (listed_status how) exit

-- ---- the lines of a file, batch by batch

-- how a reading ended at a gate at this place
abbrev pub ending_of : BatchFault → ℕ → Result Ending Stop
ending_of batches.Unfit place = Ok (endings.Changed place)
ending_of batches.DiskFault place = Ok endings.DiskFault
ending_of batches.Memory place = Err stops.Memory

-- A reading of the file of a disk that gave these entries and ended so.
abbrev pub ReadTo : Option Pending → List Entry → Ending → Type 0
ReadTo pending entries endings.Whole = IfSome pending (λ told. StandsFor entries told.content)
ReadTo pending entries (endings.Changed place) = pending ≡ None
ReadTo pending entries endings.DiskFault = IsFrontOf pending entries

-- The lines of entries that were read were put together: a block holds those of them that aren't
-- written yet, or the writing stopped.
pub record Gathers (pending : Option Pending) (before after : Option (List ℕ))
    (faults_before faults_after : ℕ) (block : List ℕ) (result : Result Ending Stop) : Type 0 where
  pub entries : List Entry
  pub read : IfOk result (ReadTo pending entries)
  pub front : OnErr result (IsFrontOf pending entries)
  pub held : OnOk result (Behind before after faults_before faults_after (entries_text entries)
      block)
  pub stopped : OnErr result (Wrote before after faults_before faults_after (entries_text entries)
      result)

-- The lines of entries that were read were written, or the writing stopped.
pub record Puts (pending : Option Pending) (before after : Option (List ℕ))
    (faults_before faults_after : ℕ) (result : Result Ending Stop) : Type 0 where
  pub entries : List Entry
  pub read : IfOk result (ReadTo pending entries)
  pub front : OnErr result (IsFrontOf pending entries)
  pub wrote : Wrote before after faults_before faults_after (entries_text entries) result
