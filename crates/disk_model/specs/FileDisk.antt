-- A disk over a file: all that it tells.
use Rattle.std.specs.Prelude.{ℕ, ◌+◌, ◌≡◌, max, Bool, true, false, length, Option, None, Some}
use Rattle.std.specs.Prelude.{IfSome, refl}
use Rattle.std.proofs.Common.{ap}
use Rattle.octet_core.specs.Fault.{count_up}
use Rattle.disk_model.specs.Images.{Pending}
use Rattle.disk_model.specs.RawFile.{Asked}
use Rattle.disk_model.specs.Calls.{CallsKeep}
use Rattle.disk_model.specs.declared.call.Call.{Call}
use Rattle.disk_model.specs.declared.call.Call.TheVariants.{Write, Cut, Sync}

-- the file, how many octets it holds as far as the disk knows, the disk's faults, and whether a
-- sync of it has failed
pub record FileState (F : Type 0) : Type 0 where
  pub file : F
  pub size : ℕ
  pub faults : ℕ
  pub sync_failed : Bool

-- how many octets the disk holds: a file that tells says it
abbrev pub extent_of : Option Pending → ℕ → ℕ
extent_of None size = size
extent_of (Some told) size = length told.content

module _ {F : Type 0} where
  -- the disk with one fault more
  abbrev pub with_fault : FileState F → FileState F
  with_fault disk = record disk { faults = count_up disk.faults }

  -- what a read leaves that failed
  abbrev pub IsFailedRead : FileState F → FileState F → Type 0
  IsFailedRead old new = new ≡ with_fault old

-- by what was asked of the system to have a file
module _ {F : Type 0} (asked : F → Asked) where
  -- What a call leaves that succeeded: what was asked of the system for the file stays. No sync
  -- succeeds after one that failed.
  abbrev pub IsMadeCall : FileState F → Call → FileState F → Type 0
  IsMadeCall old (Write place octets) new =
      (asked new.file ≡ asked old.file)
      × (new ≡ record old { file = new.file; size = max old.size (place + length octets) })
  IsMadeCall old (Cut size) new =
      (asked new.file ≡ asked old.file) × (new ≡ record old { file = new.file; size = size })
  IsMadeCall old Sync new =
      (asked new.file ≡ asked old.file) × (old.sync_failed ≡ false)
      × (new ≡ record old { file = new.file })

  -- What a call leaves that failed: what was asked for the file stays then too. A failed sync is
  -- kept, and a failed write may have grown the size.
  abbrev pub IsFailedCall : FileState F → Call → FileState F → Type 0
  IsFailedCall old (Write place octets) new =
      (asked new.file ≡ asked old.file)
      × (new ≡ record (with_fault old) { file = new.file; size = new.size })
  IsFailedCall old (Cut size) new =
      (asked new.file ≡ asked old.file) × (new ≡ record (with_fault old) { file = new.file })
  IsFailedCall old Sync new =
      (asked new.file ≡ asked old.file)
      × (new ≡ record (with_fault old) { file = new.file; sync_failed = true })

  made_keeps : (old new : FileState F) (call : Call) → IsMadeCall old call new
      → asked new.file ≡ asked old.file
  made_keeps old new (Write place octets) made = made.0
  made_keeps old new (Cut size) made = made.0
  made_keeps old new Sync made = made.0

  failed_keeps : (old new : FileState F) (call : Call) → IsFailedCall old call new
      → asked new.file ≡ asked old.file
  failed_keeps old new (Write place octets) failed = failed.0
  failed_keeps old new (Cut size) failed = failed.0
  failed_keeps old new Sync failed = failed.0

  -- no call changes what was asked for the file
  pub calls_keep_the_file : CallsKeep IsMadeCall IsFailedCall IsFailedRead (λ disk. asked disk.file)
  calls_keep_the_file = record {
    made = made_keeps;
    failed = failed_keeps;
    unread = λ old new read. ap (λ (disk : FileState F). asked disk.file) read;
  }

-- where the file tells, the disk's size is the length of what a read gives
pub size_read : (pending : Option Pending) (size : ℕ)
    → IfSome pending (λ told. extent_of pending size ≡ length told.content)
size_read None size = tt
size_read (Some told) size = refl
