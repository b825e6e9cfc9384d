-- What an archive has acknowledged, and what its disk holds.
use Rattle.std.specs.Prelude.{ℕ, ◌+◌, ◌≤◌, ◌≡◌, ◌⊎◌, Bool, true, false, Option, is_some, IfSome}
use Rattle.std.specs.Prelude.{IsTrue, List, ◌++◌, length, take}
use Rattle.std.specs.List.{list_all}
use Rattle.archive_terms.specs.Archive.{Entry, IsArchive, is_storable}
use Rattle.disk_model.specs.Images.{Pending}
use Rattle.disk_model.specs.Moments.{IsImageOf}
use Rattle.gate_journal.specs.File.{StandsAt}
use Rattle.gate_journal.specs.JournalState.{JournalState, Keeps, IsOldOrNew}
use Rattle.gate_journal.specs.declared.order.Times.{Times}
use Rattle.frame_archive.specs.State.{ArchiveState, failed_batch, times_of, wanted}

-- So many entries are acknowledged; with those that wait they are an archive, and these are the
-- last times.
pub record Agrees (entries : List Entry) (count : ℕ) (times : Times) (waiting : List Entry) : Type
    0 where
  pub counted : length entries ≡ count
  pub archive : IsArchive (entries ++ waiting)
  pub last : times ≡ times_of (entries ++ waiting)

-- The acknowledged entries of an archive on a disk that tells: each image of the disk stands for
-- them, or for them and the batch of the store that failed, whole. While no store has failed and no
-- reopen was refused, all is synced.
pub record Acknowledges {D : Type 0} (pending : D
    → Option Pending) (archive : ArchiveState D) (entries : List Entry) : Type 0 where
  pub agrees : Agrees entries archive.count archive.times archive.waiting
  pub tells : is_some (pending archive.disk) ≡ true
  pub images : (image : List ℕ) → IsImageOf (pending archive.disk) image
      → IsOldOrNew entries (failed_batch archive) image
  pub kept : archive.is_stale ≡ false → Keeps (pending archive.disk) entries

-- a file stands for entries and uses so many octets: those up to the gate behind its batches, and
-- that one
abbrev pub Uses : List Entry → ℕ → List ℕ → Type 0
Uses entries used file = (gate : ℕ) × (used ≡ gate + 1) × StandsAt entries gate file

-- A file uses so many octets for entries, or so many more for these and a batch, whole.
abbrev pub UsesOldOrNew : List Entry → List Entry → ℕ → List ℕ → Type 0
UsesOldOrNew entries batch used file = Uses entries used file
    ⊎ Uses (entries ++ batch) (used + wanted batch) file

-- On a disk that tells, so many entries use so many octets in each image, or these and a batch do.
abbrev pub IsPlaced : Option Pending → ℕ → ℕ → List Entry → Type 0
IsPlaced pending count used batch = IfSome pending (λ _. (entries : List Entry)
    × (length entries ≡ count)
    × ((image : List ℕ) → IsImageOf pending image → UsesOldOrNew entries batch used image))

-- What waits is at most a batch, and so many octets are wanted for it.
pub record Waits (waiting : List Entry) (octets failed : ℕ) : Type 0 where
  pub octets_are : octets ≡ wanted waiting
  pub most : length waiting ≤ 256
  pub storable : IsTrue (list_all is_storable waiting)
  pub some_failed : failed ≤ length waiting

-- An archive that takes a store: what waits fits, and follows what the journal keeps.
pub record IsOpen {D : Type 0} (pending : D → Option Pending) (journal : JournalState D)
    (capacity count used failed : ℕ) (times : Times) (waiting : List Entry) : Type 0 where
  pub fresh : journal.is_stale ≡ false
  pub none_failed : failed ≡ 0
  pub used_are : used ≡ journal.gate + 1
  pub fits : 1 ≤ length waiting → used + wanted waiting ≤ capacity
  pub few : 1 ≤ length waiting → count + length waiting ≤ 4194304
  pub keeps : IfSome (pending journal.disk) (λ _. (entries : List Entry)
      × Keeps (pending journal.disk) entries × Agrees entries count times waiting)

-- what holds of the parts of each archive
pub record IsSound {D : Type 0} (pending : D → Option Pending) (journal : JournalState D)
    (capacity count used failed octets : ℕ) (times : Times) (waiting : List Entry)
    (is_stale : Bool) : Type 0 where
  pub within : capacity ≤ 268435456
  pub waits : Waits waiting octets failed
  pub open_ : is_stale ≡ false → IsOpen pending journal capacity count used failed times waiting
  pub placed : is_stale ≡ true
      → IsPlaced (pending journal.disk) count used (take failed waiting)
