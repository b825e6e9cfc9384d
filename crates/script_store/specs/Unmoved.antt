-- A disk on which nothing happens: theorems for callers of a recorder, which stand here since a
-- clause can range over no facts.
use Rattle.std.proofs.Common.{◌≡◌, ℕ, List, length, inl}
use Rattle.archive_terms.specs.Archive.{Entry}
use Rattle.disk_model.specs.Images.{IsImage}
use Rattle.disk_model.specs.MemoryDisk.{DiskState, IsImageSince, pending_of}
use Rattle.disk_model.specs.MemoryDiskLaws.{only_one_now}
use Rattle.disk_model.specs.Throughout.{started}
use Rattle.gate_journal.specs.JournalState.{IsOldOrNew}
use Rattle.script_store.specs.IsHeld.{Throughout, KeepsAllOrNone}
use Rattle.script_store.specs.Stopped.{HoldsAlone}

-- where nothing happens
pub unmoved : (disk : DiskState) (P : List ℕ → Type 0)
    → ((image : List ℕ) → IsImage (pending_of disk) image → P image) → Throughout disk disk P
unmoved disk P here =
    started (λ (d : DiskState). length d.log) IsImageSince disk P
    (λ image was. here image (only_one_now disk image was))

-- where a disk is as it was
pub left_alone : (old new : DiskState) (entries batch : List Entry) → new ≡ old
    → HoldsAlone old entries → KeepsAllOrNone old new entries batch
left_alone old new entries batch same alone =
    rw same (unmoved old (IsOldOrNew entries batch) (λ image is. inl (alone image is)))
