-- A journal on a disk: what is kept there, and what its calls make.
use Rattle.std.specs.Prelude.{ℕ, ◌+◌, ◌<◌, ◌≤◌, ◌≡◌, length, ◌⊎◌, Bool, true, false, IsFalse}
use Rattle.std.specs.Prelude.{nat_le, if◌then◌else◌, Option, Some, None, IfSome, IsSomeAnd, List}
use Rattle.std.specs.Prelude.{[], ◌∷◌, ◌++◌}
use Rattle.archive_terms.specs.Archive.{Entry, IsArchive}
use Rattle.disk_model.specs.Images.{Pending, all_synced}
use Rattle.disk_model.specs.Moments.{Elapses}
use Rattle.disk_model.specs.declared.call.Call.{Call}
use Rattle.disk_model.specs.declared.call.Call.TheVariants.{Write, Sync}
use Rattle.disk_model.specs.Calls.{AllMade, FailedAtOne}
use Rattle.disk_model.specs.MemoryDisk.{DiskState, IsMadeCall, IsFailedCall, pending_of, restarted}
use Rattle.disk_model.specs.declared.orders.Pick.{Pick}
use Rattle.disk_model.specs.declared.orders.Pick.TheVariants.{Old, New, Torn}
use Rattle.disk_model.specs.declared.orders.Stop.{Stop}
use Rattle.octet_core.specs.Fault.{Rose}
use Rattle.gate_journal.specs.declared.fault.JournalFault.{JournalFault}
use Rattle.gate_journal.specs.declared.fault.JournalFault.TheVariants.{DiskFault, Full, Stale}
use Rattle.gate_journal.specs.declared.fault.JournalFault.TheVariants.{Memory}
use Rattle.gate_journal.specs.File.{header, StandsFor, StandsAt, IsBatch, batch_octets}
use Rattle.gate_journal.specs.File.{entries_octets}
use Rattle.gate_journal.specs.Reading.{Refuses}

-- a disk that tells holds a file that stands for these entries, all synced
abbrev pub Keeps : Option Pending → List Entry → Type 0
Keeps pending entries = IsSomeAnd pending (λ told. (told ≡ all_synced told.content)
    × StandsFor entries told.content)

-- a disk that tells keeps entries, and the gate behind them stands at this place
abbrev pub IsAtRest : Option Pending → ℕ → Type 0
IsAtRest pending gate = IfSome pending (λ told. (told ≡ all_synced told.content)
    × (entries : List Entry) × StandsAt entries gate told.content)

-- nothing but reads: what is pending stays, also where one fails
pub record OnlyReads {D : Type 0} (pending : D → Option Pending) (moment : D → ℕ) (images_since : D
    → ℕ → List ℕ → Type 0) (old new : D) : Type 0 where
  pub same : pending new ≡ pending old
  pub time : Elapses (moment old) (moment new) (images_since old) (images_since new) (pending new)

-- an image stands for the old entries, or for these and the batch, whole
abbrev pub IsOldOrNew : List Entry → List Entry → List ℕ → Type 0
IsOldOrNew entries batch image = StandsFor entries image ⊎ StandsFor (entries ++ batch) image

-- a batch with the next closed gate, as it is written
abbrev pub closed_batch : List Entry → List ℕ
closed_batch batch = batch_octets batch ++ 0 ∷ []

-- the counted calls that put octets behind a gate and open it
abbrev pub appending_octets : ℕ → List ℕ → List Call
appending_octets gate octets = Write (gate + 1) octets ∷ Sync ∷ Write gate (165 ∷ []) ∷ Sync ∷ []

-- the counted calls that append a batch
abbrev pub appending : ℕ → List Entry → List Call
appending gate batch = appending_octets gate (closed_batch batch)

-- a journal on a disk, as contracts see it: the gate behind its batches, and whether an append has
-- failed
pub record JournalState (D : Type 0) : Type 0 where
  pub disk : D
  pub gate : ℕ
  pub is_stale : Bool

-- A file stands for entries up to a gate, or for these and the batch, whole, up to the gate behind
-- the batch. The same entries may stand at several gates.
abbrev pub IsInPlace : List Entry → List Entry → ℕ → List ℕ → Type 0
IsInPlace entries batch gate file = StandsAt entries gate file
    ⊎ StandsAt (entries ++ batch) (gate + (length (entries_octets batch) + 7)) file

-- These octets are a batch that may be appended to what a disk keeps, with the next closed gate.
pub record IsReady (pending : Option Pending) (batch : List Entry) (octets : List ℕ) : Type 0 where
  pub spelled : octets ≡ closed_batch batch
  pub is_batch : IsBatch batch
  pub archive : (entries : List Entry) → Keeps pending entries → IsArchive (entries ++ batch)

-- why a disk's file is refused, by what it holds and how often it had failed before and after
abbrev pub RefusesDisk : JournalFault → Option Pending → ℕ → ℕ → Type 0
RefusesDisk DiskFault pending before after = Rose before after
RefusesDisk (Full need free) pending before after = ⊥
RefusesDisk Stale pending before after = ⊥
RefusesDisk fault pending before after = IfSome pending (λ told. Refuses fault told.content)

-- the file wasn't read: the disk failed, or memory was refused
abbrev pub IsUnread : JournalFault → Type 0
IsUnread fault = (fault ≡ DiskFault) ⊎ (fault ≡ Memory)

-- the counted calls that make a journal
abbrev pub creating : List Call
creating = Write 0 (header ++ 0 ∷ []) ∷ Sync ∷ []

-- What a crash leaves of a journal that is being made: it is at most as long as a new one, and
-- where it stands for entries, for none.
pub record IsBegun (image : List ℕ) : Type 0 where
  pub no_longer : length image ≤ 9
  pub no_entries : (entries : List Entry) → StandsFor entries image → entries ≡ []

-- the counted call of a recovery
abbrev pub recovering : List Call
recovering = Sync ∷ []

-- the disk failed in a recovery: at the sync, or at the read behind it
module _ {D : Type 0} (makes fails : D → Call → D → Type 0) (fails_to_read : D → D → Type 0) where
  abbrev pub FailsToRecover : D → D → Type 0
  FailsToRecover old new = FailedAtOne makes fails old recovering new
      ⊎ ((mid : D) × AllMade makes old recovering mid × fails_to_read mid new)

-- a disk in memory that runs, fails at no call, and is to stop there
pub record IsToStop (disk : DiskState) (stop : Stop) : Type 0 where
  pub runs : disk.stopped ≡ None
  pub stops : disk.stop ≡ Some stop
  pub succeeds : disk.calls.failing ≡ []

-- An append of a batch behind a gate of a disk in memory that was to stop at one of its four calls:
-- it failed, and not for want of memory.
pub record StopsIn (disk : DiskState) (gate : ℕ) (batch : List Entry) (stop : Stop)
    (after : DiskState) : Type 0 where
  pub ordered : IsToStop disk stop
  pub some : 0 < stop.calls
  pub within : stop.calls ≤ 4
  pub failed : FailedAtOne IsMadeCall IsFailedCall disk (appending gate batch) after
  pub ample : IsFalse after.memory_refused

-- Whether a stop at the k-th of an append's four calls leaves the batch in the file: at the gate's
-- write or at the sync behind it, where the pick keeps all that was written.
abbrev pub leaves_batch : ℕ → Pick → Bool
leaves_batch k New = nat_le 3 k
leaves_batch k Old = false
leaves_batch k Torn = false

-- the entries that such a stop leaves
abbrev pub entries_left : List Entry → List Entry → Stop → List Entry
entries_left entries batch stop = if leaves_batch stop.calls stop.pick then entries ++ batch
    else entries

-- once it is restarted by the stop's pick a disk in memory keeps these entries
abbrev pub KeepsOnRestart : DiskState → Stop → List Entry → Type 0
KeepsOnRestart stopped stop entries = Keeps (Some (pending_of (restarted stopped stop.pick)))
    entries

-- A file stands for entries up to a gate, with the batch behind them or without it.
abbrev pub HasBatch : Bool → List Entry → List Entry → ℕ → List ℕ → Type 0
HasBatch true entries batch gate file =
    StandsAt (entries ++ batch) (gate + (length (entries_octets batch) + 7)) file
HasBatch false entries batch gate file = StandsAt entries gate file

-- a disk in memory that runs, is not to stop, and is to fail at the k-th of its next calls alone
pub record IsToFail (disk : DiskState) (k : ℕ) : Type 0 where
  pub runs : disk.stopped ≡ None
  pub goes_on : disk.stop ≡ None
  pub fails : disk.calls ≡ record { failing = k ∷ []; made = 0 }

-- An append of a batch behind a gate of a disk in memory that was to fail at one of its four calls:
-- it failed, and not for want of memory.
pub record FailsIn (disk : DiskState) (gate : ℕ) (batch : List Entry) (k : ℕ) (after : DiskState)
    : Type 0 where
  pub ordered : IsToFail disk k
  pub some : 0 < k
  pub within : k ≤ 4
  pub failed : FailedAtOne IsMadeCall IsFailedCall disk (appending gate batch) after
  pub ample : IsFalse after.memory_refused

-- Whether a file holds the batch of an append whose k-th call failed: the gate was written, and
-- the sync behind it failed.
abbrev pub holds_batch : ℕ → Bool
holds_batch k = nat_le 4 k
