-- An archive on a disk that tells holds a world's file, and its calls are events of it. This
-- product's own.
use Rattle.std.specs.Prelude.{◌≡◌, ◌⊎◌, ℕ, ◌+◌, ◌-◌, true, false, IsTrue, Option, None, Some, List}
use Rattle.std.specs.Prelude.{[], ◌∷◌, take}
use Rattle.archive_terms.specs.Archive.{Entry, is_valid}
use Rattle.disk_model.specs.Images.{Pending}
use Rattle.disk_model.specs.Moments.{IsImageOf}
use Rattle.gate_journal.specs.File.{StandsFor}
use Rattle.gate_journal.specs.JournalState.{IsOldOrNew}
use Rattle.frame_archive.specs.State.{ArchiveState, failed_batch, refusal, with_waiting}
use Rattle.frame_archive.specs.State.{with_stored, with_failed}
use Rattle.frame_archive.specs.Acknowledges.{Acknowledges, Uses}
use Rattle.frame_archive.specs.Run.{Adds, Keeps}
use Rattle.station_book.specs.State.{Opening}
use Rattle.station_world.specs.File.{File, settled, acknowledged, batch_of, IsListOf, in_a_store}
use Rattle.station_world.specs.File.{without_power, Finding, refused, found_by}
use Rattle.station_world.specs.Life.{Life}
use Rattle.station_world.specs.World.{World, Event, offers, begins_store, ends_store, reopens}
use Rattle.station_world.specs.World.{restarts, after_events}
use Rattle.station_world.specs.Comes.{is_idle, AllCome}

-- An archive between two calls holds a file: what it has acknowledged, what waits, and the batch of
-- a store that was broken off. No store runs, and one that it takes finds the file settled.
pub record Holds {D : Type 0} (pending : D → Option Pending) (archive : ArchiveState D) (f : File)
    : Type 0 where
  pub acknowledges : Acknowledges pending archive (acknowledged f)
  pub waits : archive.waiting ≡ f.waiting
  pub batch : failed_batch archive ≡ batch_of f.phase
  pub idle : IsTrue (is_idle f.phase)
  pub open_ : archive.is_stale ≡ false → f.phase ≡ settled

-- an image of the disk stands for one of the file's lists
pub record StandsForOne (f : File) (image : List ℕ) : Type 0 where
  pub entries : List Entry
  pub one : IsListOf f entries
  pub stands : StandsFor entries image

-- A call of an archive is these events of the world whose file it holds: they may come while the
-- station runs, and the archive behind the call holds the file behind them.
abbrev pub AreEvents : {D : Type 0} → (D → Option Pending) → ArchiveState D → ArchiveState D
    → List Event → Type 0
AreEvents pending old new events =
    (w : World) (l : Life) → w.now ≡ Some l → Holds pending old w.file
    → AllCome w events × Holds pending new (after_events w events).file

-- Each call by what it ensures.
pub record ArchiveLaw {D : Type 0} (pending : D → Option Pending) : Type 0 where
  -- an offer that is taken
  pub offered : (old new : ArchiveState D) (entry : Entry) → IsTrue (is_valid entry)
      → refusal old entry ≡ None → new ≡ with_waiting old entry
      → failed_batch new ≡ failed_batch old → Keeps pending old new
      → AreEvents pending old new (offers entry ∷ [])
  -- a store that is Ok, and one that the disk fails
  pub stored : (old new : ArchiveState D) → old.is_stale ≡ false → Adds pending old new old.waiting
      → new ≡ with_stored old new.disk
      → AreEvents pending old new (begins_store ∷ ends_store true ∷ [])
  pub failed : (old new : ArchiveState D) → old.is_stale ≡ false → Keeps pending old new
      → new ≡ with_failed old new.disk
      → AreEvents pending old new (begins_store ∷ ends_store false ∷ [])
  -- a reopen that tells what landed, and one that is refused
  pub reopened : (old new : ArchiveState D) (landed : List Entry) → Adds pending old new landed
      → landed ≡ take (new.count - old.count) old.waiting
      → (new.count ≡ old.count) ⊎ (new.count ≡ old.count + old.failed)
      → new.waiting ≡ []
      → (finding : Finding) × AreEvents pending old new (reopens finding ∷ [])
  pub refused : (old new : ArchiveState D) → Keeps pending old new
      → new ≡ record old { disk = new.disk; is_stale = true }
      → AreEvents pending old new (reopens refused ∷ [])
  -- an opening behind a power failure, where the disk's content stands for one of the file's lists
  pub opened : (archive : ArchiveState D) (found : List Entry) (content : List ℕ) (o : Opening)
      (w : World) → w.now ≡ None → StandsForOne w.file content → Uses found archive.used content
      → Acknowledges pending archive found → archive.waiting ≡ []
      → (finding : Finding) × (found_by w.file finding ≡ Some found)
      × AllCome w (restarts o finding ∷ [])
      × Holds pending archive (after_events w (restarts o finding ∷ [])).file
  -- an image between two calls; one within a store; and the same ones once the power has failed
  pub images : (archive : ArchiveState D) (f : File) (image : List ℕ) → Holds pending archive f
      → IsImageOf (pending archive.disk) image → StandsForOne f image
  pub images_in_a_store : (f : File) (image : List ℕ)
      → IsOldOrNew (acknowledged f) f.waiting image → StandsForOne (in_a_store f) image
  pub images_without_power : (f : File) (image : List ℕ) → StandsForOne f image
      → StandsForOne (without_power f) image
