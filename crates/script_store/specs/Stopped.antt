-- What a line leaves that is stopped, and what a recovery of a world's disk finds.
use Rattle.std.specs.Prelude.{◌≡◌, ◌⊎◌, ℕ, false, List}
use Rattle.archive_terms.specs.Archive.{Entry}
use Rattle.disk_model.specs.Images.{IsImage}
use Rattle.disk_model.specs.MemoryDisk.{DiskState, pending_of}
use Rattle.gate_journal.specs.File.{StandsFor}
use Rattle.gate_journal.specs.JournalState.{IsOldOrNew}
use Rattle.script_store.specs.Store.{Store, Recorded}
use Rattle.script_store.specs.Answer.{Answer}

-- Nothing is published of a line that is stopped before it is done, and the order stays. Where a
-- store was begun, the file may hold what the line gave to it, all or nothing.
pub record IsLeft (before : Recorded) (given : List Entry) (after : Recorded) : Type 0 where
  pub published : after.state.published ≡ before.state.published
  pub capacity : after.state.capacity ≡ before.state.capacity
  pub order : after.state.order ≡ before.state.order
  pub unsettled : (after.state.unsettled ≡ before.state.unsettled)
      ⊎ (after.state.unsettled ≡ given)

-- a line was done, all but its text
pub record IsDone (answer : Answer Store) (after : Recorded) : Type 0 where
  pub state : after.state ≡ answer.next
  pub ready : after.is_spent ≡ false

-- of a line that is stopped all was stored, or nothing published
abbrev pub IsStopped : Recorded → Answer Store → Recorded → Type 0
IsStopped before answer after =
    (after.state ≡ answer.next) ⊎ IsLeft before answer.given after

-- each image of a disk stands for these entries
abbrev pub HoldsAlone : DiskState → List Entry → Type 0
HoldsAlone disk entries =
    (image : List ℕ) → IsImage (pending_of disk) image → StandsFor entries image

-- each image of a disk stands for what is published, or for that and the entries of a store that
-- isn't over, whole
abbrev pub Recovers : DiskState → Store → Type 0
Recovers disk state =
    (image : List ℕ) → IsImage (pending_of disk) image
    → IsOldOrNew state.published state.unsettled image
