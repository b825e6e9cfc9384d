-- What a step of the recorder does with the entries that it polled, on any disk: what it stores,
-- what a reopen finds, and which calls of the disk it makes. This product's own rule.
use Rattle.std.specs.Prelude.{◌≡◌, ◌⊎◌, ℕ, ◌+◌, ◌-◌, Option, Some, None, IfSome, List, [], ◌∷◌}
use Rattle.std.specs.Prelude.{length, take, IsTrue}
use Rattle.std.specs.List.{list_all}
use Rattle.archive_terms.specs.Archive.{Entry, is_valid}
use Rattle.octet_core.specs.Fault.{Rose}
use Rattle.disk_model.specs.Images.{Pending}
use Rattle.disk_model.specs.Moments.{HoldsThroughout}
use Rattle.disk_model.specs.Calls.{AllMade, FailedAtOne}
use Rattle.disk_model.specs.declared.call.Call.{Call}
use Rattle.gate_journal.specs.JournalState.{appending, recovering, FailsToRecover, IsOldOrNew}
use Rattle.frame_archive.specs.State.{ArchiveState, at_rest, times_of, wanted, with_stored}
use Rattle.frame_archive.specs.State.{with_failed}
use Rattle.frame_archive.specs.Acknowledges.{Acknowledges, Uses}
use Rattle.frame_archive.specs.Run.{Adds}
use Rattle.frame_archive.specs.Faults.{RefusesReopen}
use Rattle.frame_archive.specs.declared.fault.ArchiveFault.{ArchiveFault}
use Rattle.recorder.specs.declared.recorded.Recorded.{Recorded}
use Rattle.recorder.specs.declared.record_fault.RecordFault.{RecordFault}
use Rattle.recorder.specs.declared.record_fault.RecordFault.TheVariants as faults
use Rattle.recorder.specs.Offers.{Dropped, dropped_of, Offered, offered, after_offers, offered_to}
use Rattle.recorder.specs.Offers.{none_dropped, IsCutShort}

-- ---- a store

-- the counted calls of a store behind so many used octets: none where nothing waits
abbrev pub storing : ℕ → List Entry → List Call
storing used [] = []
storing used (entry ∷ entries) = appending (used - 1) (entry ∷ entries)

-- the counted calls that store all that waits in an archive
abbrev pub store_of : {D : Type 0} → ArchiveState D → List Call
store_of archive = storing archive.used archive.waiting

-- a step tells these entries as stored, and these as dropped
pub record Tells (entries : List Entry) (dropped : Dropped) (recorded : Recorded) : Type 0 where
  pub stored : recorded.entries ≡ entries
  pub dropped_are : dropped_of recorded ≡ dropped

-- A step stored all that the archive took when it was first offered, and dropped what was refused
-- then, and no other: nothing was refused that was offered once more.
abbrev pub TellsOffered : {D : Type 0} → Offered D → Recorded → Type 0
TellsOffered before recorded = Tells before.archive.waiting before.dropped recorded

-- All that waits was stored as one batch.
module _ {D : Type 0} (makes : D → Call → D → Type 0) where
  pub record Stores (before : Offered D) (new : ArchiveState D) (recorded : Recorded) : Type 0 where
    pub state : new ≡ with_stored before.archive new.disk
    pub calls : AllMade makes before.archive.disk (store_of before.archive) new.disk
    pub told : Tells before.archive.waiting before.dropped recorded

-- A store of all that waits failed, and left the disk like this.
module _ {D : Type 0} (makes fails : D → Call → D → Type 0) where
  abbrev pub StoreFails : ArchiveState D → D → Type 0
  StoreFails archive broken = FailedAtOne makes fails archive.disk (store_of archive) broken

-- ---- the reopen behind a store that failed

-- what waited before a reopen, offered once more to the archive that was opened
abbrev pub offered_again : {D : Type 0} → Dropped → ArchiveState D → ArchiveState D → Offered D
offered_again dropped old opened = after_offers (offered opened dropped) old.waiting

module _ {D : Type 0} (pending : D → Option Pending) (makes : D → Call → D → Type 0) where
  -- An archive was opened again. Nothing waits in it, and its file holds so many entries, which use
  -- so many octets: on a disk that tells, those from before, and those that landed.
  pub record Reopened (old opened : ArchiveState D) : Type 0 where
    pub calls : AllMade makes old.disk recovering opened.disk
    pub state : opened ≡ record (at_rest opened.disk old.capacity opened.used []) {
      count = opened.count;
      times = opened.times;
    }
    pub found : (entries : List Entry) × (length entries ≡ opened.count)
        × (opened.times ≡ times_of entries)
        × IfSome (pending old.disk) (λ told. Uses entries opened.used told.content)
    pub used : IfSome (pending old.disk) (λ _. opened.used
        ≡ old.used + wanted (take (opened.count - old.count) old.waiting))
    pub acknowledged : Adds pending old opened (take (opened.count - old.count) old.waiting)

  -- All that waited landed in the file.
  pub record Lands (dropped : Dropped) (old new : ArchiveState D) (recorded : Recorded)
      : Type 0 where
    pub reopened : Reopened old new
    pub counted : recorded.reopened ≡ Some new.count
    pub count : new.count ≡ old.count + length old.waiting
    pub told : Tells old.waiting dropped recorded

  -- None of it landed, and it was offered and stored once more.
  pub record StoresAgain (dropped : Dropped) (old new : ArchiveState D) (recorded : Recorded)
      : Type 0 where
    pub opened : ArchiveState D
    pub reopened : Reopened old opened
    pub counted : recorded.reopened ≡ Some opened.count
    pub count : opened.count ≡ old.count
    pub stores : Stores makes (offered_again dropped old opened) new recorded

  -- where none of what waited landed, all of it waits again once it is offered once more
  abbrev pub WaitsAgain : Dropped → ArchiveState D → Type 0
  WaitsAgain dropped old = (opened : ArchiveState D) → Reopened old opened
      → opened.count ≡ old.count → (offered_again dropped old opened).archive.waiting ≡ old.waiting

  -- a store failed, and what it left was opened again
  abbrev pub IsMended : Dropped → ArchiveState D → ArchiveState D → Recorded → Type 0
  IsMended dropped old new recorded = Lands dropped old new recorded
      ⊎ StoresAgain dropped old new recorded

module _ {D : Type 0} (pending : D → Option Pending) (makes fails : D → Call → D → Type 0) where
  -- What was offered is stored, by whether a reopen was made.
  abbrev pub IsStored : Option ℕ → Offered D → ArchiveState D → Recorded → Type 0
  IsStored None before new recorded = Stores makes before new recorded
  IsStored (Some count) before new recorded = (broken : D)
      × StoreFails makes fails before.archive broken
      × IsMended pending makes before.dropped (with_failed before.archive broken) new recorded

module _ {D : Type 0} (pending : D → Option Pending) (faults_of : D → ℕ)
    (makes fails : D → Call → D → Type 0) where
  -- A second store failed, of what was lost, which is valid.
  pub record FailsAgain (dropped : Dropped) (old new : ArchiveState D) : Type 0 where
    pub opened : ArchiveState D
    pub reopened : Reopened pending makes old opened
    pub count : opened.count ≡ old.count
    pub valid : IsTrue (list_all is_valid old.waiting)
    pub cause : Rose (faults_of opened.disk) (faults_of new.disk)
    pub failed : StoreFails makes fails (offered_again dropped old opened).archive new.disk
    pub state : new ≡ with_failed (offered_again dropped old opened).archive new.disk

-- ---- what a step leaves that isn't mended

module _ {D : Type 0} (pending : D → Option Pending) (faults_of : D → ℕ)
    (makes fails : D → Call → D → Type 0) (fails_to_read : D → D → Type 0) where
  -- a reopen failed
  pub record ReopenFails (old new : ArchiveState D) : Type 0 where
    pub calls : FailsToRecover makes fails fails_to_read old.disk new.disk
    pub cause : Rose (faults_of old.disk) (faults_of new.disk)
    pub state : new ≡ record old { disk = new.disk }

  -- a reopen found another file
  pub record IsRefused (fault : ArchiveFault) (old new : ArchiveState D) : Type 0 where
    pub calls : AllMade makes old.disk recovering new.disk
    pub state : new ≡ record old { disk = new.disk }
    pub cause : RefusesReopen fault old.count old.failed (pending old.disk) (faults_of old.disk)
        (faults_of new.disk)

  -- Memory was wanted once what was lost was known: of that, some waits. All of it is valid.
  pub record IsLostShort (dropped : Dropped) (old new : ArchiveState D) : Type 0 where
    pub opened : ArchiveState D
    pub reopened : Reopened pending makes old opened
    pub count : opened.count ≡ old.count
    pub valid : IsTrue (list_all is_valid old.waiting)
    pub offered_again : IsCutShort (offered opened dropped) old.waiting new

  -- What is left of an archive whose store failed. After want of memory all that waited still
  -- waits, or a part of it.
  abbrev pub IsUnmended : RecordFault → Dropped → ArchiveState D → ArchiveState D → Type 0
  IsUnmended faults.SourceFault dropped old new = ⊥
  IsUnmended faults.DiskFault dropped old new = ReopenFails old new
      ⊎ FailsAgain pending faults_of makes fails dropped old new
  IsUnmended (faults.Refused fault) dropped old new = IsRefused fault old new
  IsUnmended faults.Memory dropped old new =
      ((new ≡ record old { disk = new.disk }) × AllMade makes old.disk recovering new.disk)
      ⊎ IsLostShort dropped old new

  -- the same, from the store on
  abbrev pub IsLeftBroken : RecordFault → Offered D → ArchiveState D → Type 0
  IsLeftBroken fault before new = (broken : D) × StoreFails makes fails before.archive broken
      × Rose (faults_of before.archive.disk) (faults_of broken)
      × IsUnmended fault before.dropped (with_failed before.archive broken) new

  -- What a step leaves of an archive, by what it polled. After want of memory none of that is
  -- acknowledged: some of it waits, as long as no store failed a front of what was to be offered.
  abbrev pub IsLeft : RecordFault → ArchiveState D → List Entry → ArchiveState D → Type 0
  IsLeft faults.SourceFault old polled new = new ≡ old
  IsLeft faults.Memory old polled new = IsCutShort (offered old none_dropped) polled new
      ⊎ IsLeftBroken faults.Memory (offered_to old polled) new
  IsLeft fault old polled new = IsLeftBroken fault (offered_to old polled) new

-- ---- at every moment of a step

module _ {D : Type 0} (pending : D → Option Pending) (moment : D → ℕ)
    (images_since : D → ℕ → List ℕ → Type 0) where
  -- Each image of the disk stands for what was acknowledged, or for that and a batch, whole.
  abbrev pub HoldsAllOrNone : ArchiveState D → List Entry → ArchiveState D → Type 0
  HoldsAllOrNone old batch new = (entries : List Entry) → Acknowledges pending old entries
      → HoldsThroughout moment images_since old.disk new.disk (IsOldOrNew entries batch)

-- the file was no other one
abbrev pub IsNoRefusal : RecordFault → Type 0
IsNoRefusal (faults.Refused fault) = ⊥
IsNoRefusal _ = Unit {0}
