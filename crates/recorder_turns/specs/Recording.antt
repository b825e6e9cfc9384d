-- What a recorder's worker came to. This product's own.
use Rattle.std.specs.Prelude.{◌≡◌, ◌⊎◌, ℕ, ◌+◌, true, Option, List, [], ◌∷◌, ◌++◌, length}
use Rattle.std.specs.Prelude.{Result, Ok, Err}
use Rattle.archive_terms.specs.Archive.{Entry}
use Rattle.octet_core.specs.Fault.{Rose}
use Rattle.disk_model.specs.Images.{Pending}
use Rattle.disk_model.specs.declared.call.Call.{Call as DiskCall}
use Rattle.frame_archive.specs.State.{ArchiveState}
use Rattle.frame_archive.specs.Acknowledges.{Acknowledges}
use Rattle.frame_archive.specs.Run.{Keeps}
use Rattle.recorder.specs.Feeds.{Answer}
use Rattle.recorder.specs.Polling.{BreaksOff, Gave}
use Rattle.recorder.specs.Steps.{IsLeft}
use Rattle.recorder.specs.declared.recorded.Recorded.{Recorded}
use Rattle.recorder.specs.declared.record_fault.RecordFault.{RecordFault}
use Rattle.recorder.specs.declared.record_fault.RecordFault.TheVariants as step
use Rattle.turn_lock.specs.PassState.{Lock}
use Rattle.turn_lock.specs.declared.view.Mark.{Mark}
use Rattle.station_book.specs.State.{Opening, Event, accepted, foreign}
use Rattle.station_turns.specs.Turned.{Publishes, Leaves}
use Rattle.station_turns.specs.Gained.{Gains}
use Rattle.recorder_turns.specs.Steps.{RecorderState, Steps, Went, tally_of}
use Rattle.recorder_turns.specs.declared.recording_fault.RecordingFault.{RecordingFault}
use Rattle.recorder_turns.specs.declared.recording_fault.RecordingFault.TheVariants.{SourceFault}
use Rattle.recorder_turns.specs.declared.recording_fault.RecordingFault.TheVariants.{DiskFault}
use Rattle.recorder_turns.specs.declared.recording_fault.RecordingFault.TheVariants.{Refused}
use Rattle.recorder_turns.specs.declared.recording_fault.RecordingFault.TheVariants.{Foreign}
use Rattle.recorder_turns.specs.declared.recording_fault.RecordingFault.TheVariants.{TurnsSpent}
use Rattle.recorder_turns.specs.declared.recording_fault.RecordingFault.TheVariants.{Memory}
use Rattle.recorder_turns.specs.declared.tally.Tally.{Tally}

-- the last step is one behind which the source gives no entry any more
abbrev pub EndWithLast : List Recorded → Type 0
EndWithLast steps = (earlier : List Recorded) × (recorded : Recorded)
    × (steps ≡ earlier ++ recorded ∷ []) × (recorded.last ≡ true)

module _ {D F : Type 0} (pending : D → Option Pending) (disk_faults : D → ℕ)
    (makes fails : D → DiskCall → D → Type 0) (fails_to_read : D → D → Type 0)
    (answers : F → Option (List Answer)) (source_faults : F → ℕ) (lock : Lock Opening) where
  -- No turn was entered: a step broke off before it had stored anything, or behind a store that
  -- failed; what was acknowledged is.
  pub record StoresNothing (fault : RecordFault) (spent : ℕ) (gained : List (Mark Event))
      (at new : RecorderState D F) : Type 0 where
    pub no_turn : (spent ≡ 0) × (gained ≡ [])
    pub keeps : Keeps pending at.archive new.archive
    pub left : (polled : List Entry) × Gave polled (answers at.frames) (answers new.frames)
        × IsLeft pending disk_faults makes fails fails_to_read fault at.archive polled new.archive

  -- A step stored entries, and the book refused to publish them.
  pub record IsForeign (spent : ℕ) (gained : List (Mark Event)) (at new : RecorderState D F)
      : Type 0 where
    pub recorded : Recorded
    pub steps : Steps pending makes fails answers recorded at.archive new.archive at.frames
        new.frames
    pub refused : Publishes lock recorded.entries foreign at.pass new.pass
    pub one_turn : (spent ≡ 1) × (length gained ≡ 1)

  -- A step stored entries, and memory was wanted to publish them: the turn was left.
  pub record IsUnpublished (spent : ℕ) (gained : List (Mark Event)) (at new : RecorderState D F)
      : Type 0 where
    pub recorded : Recorded
    pub steps : Steps pending makes fails answers recorded at.archive new.archive at.frames
        new.frames
    pub left_turn : Leaves lock at.pass new.pass
    pub one_turn : (spent ≡ 1) × (gained ≡ [])

  -- Why the worker stopped, how many turns it spent and what it gained since its last good step.
  abbrev pub Why : RecordingFault → ℕ → List (Mark Event) → RecorderState D F
      → RecorderState D F → Type 0
  Why SourceFault spent gained at new =
      StoresNothing step.SourceFault spent gained at new
      × (new.archive ≡ at.archive) × BreaksOff (answers at.frames) (answers new.frames)
      × Rose (source_faults at.frames) (source_faults new.frames)
  Why DiskFault spent gained at new = StoresNothing step.DiskFault spent gained at new
  Why (Refused fault) spent gained at new =
      StoresNothing (step.Refused fault) spent gained at new
      × ((entries : List Entry) → Acknowledges pending at.archive entries → ⊥)
  Why Foreign spent gained at new = IsForeign spent gained at new
  Why TurnsSpent spent gained at new =
      (spent ≡ 0) × (gained ≡ []) × (new ≡ at) × (at.pass.left ≡ 1)
  Why Memory spent gained at new =
      StoresNothing step.Memory spent gained at new ⊎ IsUnpublished spent gained at new

  -- A step broke off.
  pub record Breaks (fault : RecordingFault) (at new : RecorderState D F) : Type 0 where
    pub spent : ℕ
    pub gained : List (Mark Event)
    pub gains : Gains lock spent gained at.pass new.pass
    pub why : Why fault spent gained at new

  -- How the worker ended behind good steps: with the source's end, or with a step that broke off.
  abbrev pub Ends : Result Tally RecordingFault → List Recorded → ℕ → List (Mark Event)
      → RecorderState D F → RecorderState D F → Type 0
  Ends (Ok tally) steps spent gained at new =
      (spent ≡ 0) × (gained ≡ []) × (new ≡ at) × (tally ≡ tally_of steps) × EndWithLast steps
  Ends (Err fault) steps spent gained at new = Why fault spent gained at new

  -- The recorder's worker: good steps, each stored and published, until an end, at which it had
  -- come to `at`. In all its pass gained the events of these steps and at most one more.
  pub record Records (result : Result Tally RecordingFault) (old new : RecorderState D F)
      : Type 0 where
    pub steps : List Recorded
    pub published : List (Mark Event)
    pub at : RecorderState D F
    pub went : Went pending makes fails answers lock steps published old at
    pub spent : ℕ
    pub last : List (Mark Event)
    pub gains : Gains lock (length steps + spent) (published ++ last) old.pass new.pass
    pub ended : Ends result steps spent last at new
