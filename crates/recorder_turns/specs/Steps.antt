-- The steps of a recorder's worker, each with the turn that publishes what it stored. This
-- product's own.
use Rattle.std.specs.Prelude.{◌≡◌, ℕ, ◌+◌, min, Bool, Option, List, [], ◌∷◌, ◌++◌, length, map}
use Rattle.std.specs.List.{flat_map, sum_by}
use Rattle.archive_terms.specs.Archive.{Entry}
use Rattle.octet_core.specs.Fault.{last_count}
use Rattle.disk_model.specs.Images.{Pending}
use Rattle.disk_model.specs.declared.call.Call.{Call as DiskCall}
use Rattle.frame_archive.specs.State.{ArchiveState}
use Rattle.frame_archive.specs.Acknowledges.{Acknowledges}
use Rattle.frame_archive.specs.Run.{Adds}
use Rattle.recorder.specs.Feeds.{Answer}
use Rattle.recorder.specs.Polling.{IsPolled}
use Rattle.recorder.specs.Offers.{offered_to}
use Rattle.recorder.specs.Steps.{IsStored, TellsOffered}
use Rattle.recorder.specs.declared.recorded.Recorded.{Recorded}
use Rattle.turn_lock.specs.PassState.{PassState, Lock}
use Rattle.turn_lock.specs.declared.view.Mark.{Mark}
use Rattle.station_book.specs.State.{Opening, Event, Call, publish, accepted}
use Rattle.station_book.specs.Publishing.{published_in}
use Rattle.station_turns.specs.Turned.{Publishes}
use Rattle.station_turns.specs.Gained.{Gains, events_of, calls_of}
use Rattle.recorder_turns.specs.declared.step.StepCounts.{StepCounts}
use Rattle.recorder_turns.specs.declared.tally.Tally.{Tally}

-- a recorder's worker: its archive, its source of entries, and its pass
pub record RecorderState (D F : Type 0) : Type 0 where
  pub archive : ArchiveState D
  pub frames : F
  pub pass : PassState Event Opening

abbrev pub worker : {D F : Type 0} → ArchiveState D → F → PassState Event Opening
    → RecorderState D F
worker archive frames pass = record { archive = archive; frames = frames; pass = pass }

-- the calls that publish what steps stored, one for each
abbrev pub publishings : List Recorded → List Call
publishings steps = map (λ step. publish step.entries) steps

-- all that steps stored, in order
abbrev pub stored_by : List Recorded → List Entry
stored_by steps = flat_map (λ step. step.entries) steps

-- how many entries steps stored and dropped; each count stands still at its last value
abbrev pub tally_of : List Recorded → Tally
tally_of steps = record {
  stored = min (length (stored_by steps)) last_count;
  refused = min (sum_by (λ step. step.refused) steps) last_count;
  full = min (sum_by (λ step. step.full) steps) last_count;
}

-- A step polled these entries of the source, and stored those of them that weren't dropped, on any
-- disk; the archive acknowledges them behind those before. On a disk that tells, nothing is dropped
-- for being offered once more behind a store that failed.
pub record Steps {D F : Type 0} (pending : D → Option Pending) (makes fails : D → DiskCall → D
    → Type 0) (answers : F → Option (List Answer)) (recorded : Recorded) (old new : ArchiveState D)
    (before after : F) : Type 0 where
  pub polled : List Entry
  pub is_polled : IsPolled recorded.last polled (answers before) (answers after)
  pub counted : length recorded.entries + recorded.refused + recorded.full ≡ length polled
  pub stored : IsStored pending makes fails recorded.reopened (offered_to old polled) new recorded
  pub acknowledged : Adds pending old new recorded.entries
  pub taken : (entries : List Entry) → Acknowledges pending old entries
      → TellsOffered (offered_to old polled) recorded

-- Steps one after the other, from an archive and a source as they were to what these became.
pub data Chain {D F : Type 0} (pending : D → Option Pending) (makes fails : D → DiskCall → D
    → Type 0) (answers : F → Option (List Answer)) : List Recorded → ArchiveState D → F
    → ArchiveState D → F → Type 0 where
  none : (archive : ArchiveState D) (frames : F)
      → Chain pending makes fails answers [] archive frames archive frames
  more : (steps : List Recorded) (recorded : Recorded) (a b c : ArchiveState D) (f g h : F)
      → Chain pending makes fails answers steps a f b g
      → Steps pending makes fails answers recorded b c g h
      → Chain pending makes fails answers (steps ++ recorded ∷ []) a f c h

-- Steps of the worker: the pass gained the publishing of each, in order, for one turn each, and the
-- book accepted all. So what it published is what the archive acknowledges behind what was there.
pub record Went {D F : Type 0} (pending : D → Option Pending) (makes fails : D → DiskCall → D
    → Type 0) (answers : F → Option (List Answer)) (lock : Lock Opening) (steps : List Recorded)
    (gained : List (Mark Event)) (old new : RecorderState D F) : Type 0 where
  pub chain : Chain pending makes fails answers steps old.archive old.frames new.archive new.frames
  pub gains : Gains lock (length steps) gained old.pass new.pass
  pub calls : calls_of gained ≡ publishings steps
  pub accepted : published_in (events_of gained) ≡ stored_by steps
  pub acknowledged : Adds pending old.archive new.archive (stored_by steps)

-- what a step stored and dropped, in numbers, and whether the source's end came behind it
abbrev pub counts_of : Recorded → StepCounts
counts_of recorded = record {
  stored = length recorded.entries;
  refused = recorded.refused;
  full = recorded.full;
  last = recorded.last;
}

-- A good step of the worker: what it stored was published in a turn, and accepted.
pub record StepsOnce {D F : Type 0} (pending : D → Option Pending) (makes fails : D → DiskCall → D
    → Type 0) (answers : F → Option (List Answer)) (lock : Lock Opening) (counts : StepCounts)
    (old new : RecorderState D F) : Type 0 where
  pub recorded : Recorded
  pub steps : Steps pending makes fails answers recorded old.archive new.archive old.frames
      new.frames
  pub publishes : Publishes lock recorded.entries accepted old.pass new.pass
  pub counts_are : counts ≡ counts_of recorded
