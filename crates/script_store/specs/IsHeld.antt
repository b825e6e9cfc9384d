-- What holds of the parts of each recorder: unless it is spent, its archive on a disk in memory has
-- acknowledged what is published, and nothing else.
use Rattle.std.specs.Prelude.{◌≡◌, ℕ, ◌<◌, Bool, false, Option, Some, None, IfSome, List, [], ◌∷◌}
use Rattle.std.specs.Prelude.{length}
use Rattle.archive_terms.specs.Archive.{Entry}
use Rattle.record_form.specs.Entry.{entry_of}
use Rattle.record_form.specs.declared.entry.Entry as form
use Rattle.disk_model.specs.Images.{Pending, IsImage}
use Rattle.disk_model.specs.Moments.{HoldsThroughout}
use Rattle.disk_model.specs.MemoryDisk.{DiskState, IsImageSince, pending_of}
use Rattle.gate_journal.specs.JournalState.{IsOldOrNew}
use Rattle.gate_journal.specs.declared.order.Times.{Times}
use Rattle.frame_archive.specs.declared.fault.OfferFault.{OfferFault}
use Rattle.frame_archive.specs.declared.fault.OfferFault.TheVariants as faults
use Rattle.frame_archive.specs.State.{ArchiveState, times_of}
use Rattle.frame_archive.specs.Acknowledges.{Acknowledges}
use Rattle.script_store.specs.declared.order.Order.{Order}
use Rattle.script_store.specs.declared.refusal.Refusal.{Refusal}
use Rattle.script_store.specs.declared.refusal.Refusal.TheVariants as refusals
use Rattle.script_store.specs.Entries.{used}

-- a disk in memory tells what is pending
abbrev pub told_by : DiskState → Option Pending
told_by disk = Some (pending_of disk)

-- a disk that has no orders, and was refused no memory
pub record IsUnsteered (disk : DiskState) : Type 0 where
  pub goes_on : disk.stop ≡ None
  pub succeeds : disk.calls.failing ≡ []
  pub ample : disk.memory_refused ≡ false

-- An archive has acknowledged these entries, each in a batch of its own, and takes a store; these
-- wait; and its disk runs, and has no orders.
pub record IsAt (archive : ArchiveState DiskState) (entries waiting : List Entry) : Type 0 where
  pub acknowledges : Acknowledges told_by archive entries
  pub waits : archive.waiting ≡ waiting
  pub fresh : archive.is_stale ≡ false
  pub used_are : archive.used ≡ used entries
  pub runs : archive.disk.stopped ≡ None
  pub unsteered : IsUnsteered archive.disk

-- no entry waits
abbrev pub Rests : ArchiveState DiskState → List Entry → Type 0
Rests archive entries = IsAt archive entries []

-- each image of a disk stands for the entries, or for them and a batch, whole
abbrev pub HoldsAllOrNone : DiskState → List Entry → List Entry → Type 0
HoldsAllOrNone disk entries batch =
    (image : List ℕ) → IsImage (pending_of disk) image → IsOldOrNew entries batch image

-- at every moment from an old disk to a new one each image has this
abbrev pub Throughout : DiskState → DiskState → (List ℕ → Type 0) → Type 0
Throughout old new holds =
    HoldsThroughout (λ (disk : DiskState). length disk.log) IsImageSince old new holds

-- it stands for the entries, or for them and a batch, whole
abbrev pub KeepsAllOrNone : DiskState → DiskState → List Entry → List Entry → Type 0
KeepsAllOrNone old new entries batch = Throughout old new (IsOldOrNew entries batch)

-- the entry of a store that isn't over
abbrev pub begun_list : Option form.Entry → List Entry
begun_list None = []
begun_list (Some entry) = entry_of entry ∷ []

-- A recorder between two lines: its archive has acknowledged what is published, of which these are
-- the last times, and no store is begun.
pub record IsReady (archive : ArchiveState DiskState) (published : List Entry) (times : Times)
    (begun : Option form.Entry) : Type 0 where
  pub rests : Rests archive published
  pub times_are : times ≡ times_of published
  pub none_begun : begun ≡ None

-- Each recorder is between two lines unless it is spent, and a recovery finds what is published and
-- of a store that isn't over all or nothing; an order that stands is for a call to come.
pub record IsHeld (archive : ArchiveState DiskState) (published : List Entry) (times : Times)
    (begun : Option form.Entry) (order : Option Order) (is_spent : Bool) : Type 0 where
  pub ready : is_spent ≡ false → IsReady archive published times begun
  pub images : HoldsAllOrNone archive.disk published (begun_list begun)
  pub to_come : IfSome order (λ o. 0 < o.calls)

-- the same refusal, as the archive tells it
abbrev pub fault_of : Refusal → OfferFault
fault_of refusals.Backward = faults.Backward
fault_of refusals.TooLong = faults.TooLong
fault_of (refusals.Full need free) = faults.Full need free

-- an archive in which nothing waits refuses no entry so
abbrev pub IsOfOffer : OfferFault → Type 0
IsOfOffer faults.Waiting = ⊥
IsOfOffer _ = Unit {0}
