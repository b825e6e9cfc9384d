-- A run of a station as a list of a world's events. This product's own.
use Rattle.std.specs.Prelude.{◌≡◌, ℕ, ◌+◌, Option, Some, None, Result, List, [], ◌∷◌, ◌++◌, length}
use Rattle.cds_time.specs.declared.cds.Cds.{Cds}
use Rattle.octet_core.specs.Told.{Tells}
use Rattle.archive_terms.specs.Archive.{Entry}
use Rattle.disk_model.specs.Images.{Pending}
use Rattle.disk_model.specs.Moments.{IsImageOf}
use Rattle.disk_model.specs.declared.call.Call.{Call as DiskCall}
use Rattle.frame_archive.specs.State.{ArchiveState}
use Rattle.recorder.specs.Feeds.{Answer}
use Rattle.recorder.specs.declared.recorded.Recorded.{Recorded}
use Rattle.link_model.specs.declared.call.Call.{Call as LinkCall}
use Rattle.door_model.specs.Shown.{Shown}
use Rattle.station_config.specs.Validity.{IsSite}
use Rattle.station_config.specs.declared.site.Site.{Site}
use Rattle.station_book.specs.State.{Opening, Event as Answered}
use Rattle.station_book.specs.Origin.{opening_of}
use Rattle.recorder_turns.specs.declared.tally.Tally.{Tally}
use Rattle.recorder_turns.specs.declared.recording_fault.RecordingFault.{RecordingFault}
use Rattle.antenna_turns.specs.Steps.{Step}
use Rattle.station_run.specs.Ran.{Outside, RanOver}
use Rattle.station_run.specs.declared.report.RunReport.{RunReport}
use Rattle.station_world.specs.File.{Finding, without_power, found_by}
use Rattle.station_world.specs.Life.{Life}
use Rattle.station_world.specs.World.{World, Event, restarts, after_events}
use Rattle.station_world.specs.Comes.{AllCome}
use Rattle.station_world.specs.Headline.{Headline}
use Rattle.station_world.specs.Stays.{LivesGoOn, AtEachMoment}
use Rattle.station_world.specs.Archives.{Holds, StandsForOne}
use Rattle.run_events.specs.Stores.{Tail, EndsWith}
use Rattle.run_events.specs.Turns.{Turn, events_of, answered_in, AreTurns}

-- a station's book before its archive is opened
abbrev pub station_of : Site → ℕ → Opening
station_of site doors = opening_of site [] (doors + 1)

-- the archive is opened, for a station whose book is opened so, and the turns come
abbrev pub events_of_run : Opening → Finding → List Turn → List Event
events_of_run o finding turns = restarts o finding ∷ events_of turns

-- Behind events that led from a world to one behind them, a life goes on with this history; the
-- archive holds the file, and each image of its disk stands for one of the file's lists, also once
-- the power is gone; and the antenna was sent what it tells.
pub record LeadsTo {D A : Type 0} (pending : D → Option Pending) (sent : A → Option (List (List ℕ)))
    (history : List Answered) (archive : ArchiveState D) (antenna antenna_now : A) (w now : World)
    : Type 0 where
  pub life : Life
  pub goes_on : now.now ≡ Some life
  pub history_is : life.history ≡ history
  pub holds : Holds pending archive now.file
  pub images : (image : List ℕ) → IsImageOf (pending archive.disk) image
      → StandsForOne (without_power now.file) image
  pub octets : List (List ℕ)
  pub sent_on : now.antenna ≡ w.antenna ++ octets
  pub tells : Tells (sent antenna) (sent antenna_now) octets

-- A history with what its workers did in their places is a list of events, all of which may come.
-- Its first one opens the archive, which finds these entries.
pub record IsEvents {D A : Type 0} (pending : D → Option Pending)
    (sent : A → Option (List (List ℕ))) (o : Opening) (w : World) (entries : List Entry)
    (number : ℕ) (recorded : List Recorded) (ended : Result Tally RecordingFault)
    (steps : List Step) (history : List Answered) (archive : ArchiveState D)
    (antenna antenna_now : A) : Type 0 where
  pub finding : Finding
  pub found : found_by w.file finding ≡ Some entries
  pub tail : Tail
  pub ends : EndsWith ended tail
  pub turns : List Turn
  pub answered : answered_in turns ≡ history
  pub are : AreTurns number entries recorded tail steps turns
  pub come : AllCome w (events_of_run o finding turns)
  pub lead : LeadsTo pending sent history archive antenna antenna_now w
      (after_events w (events_of_run o finding turns))
  pub headline : AtEachMoment Headline w (events_of_run o finding turns)
  pub stays : AtEachMoment LivesGoOn w (events_of_run o finding turns)

module _ {D F A G L C : Type 0} (pending : D → Option Pending) (disk_faults moment : D → ℕ)
    (images_since : D → ℕ → List ℕ → Type 0) (makes fails : D → DiskCall → D → Type 0)
    (fails_to_read : D → D → Type 0) (answers : F → Option (List Answer)) (source_faults : F → ℕ)
    (sent : A → Option (List (List ℕ))) (antenna_faults : A → ℕ) (shown : G → Option Shown)
    (door_faults : G → ℕ) (calls : L → Option (List LinkCall)) (link_faults : L → ℕ)
    (readings : C → Option (List Cds)) where
  module _ {site : Site} {turns links draw : ℕ} {disk disk_now : D} {old new : Outside F A G C}
      {report : RunReport} (over : RanOver pending disk_faults moment images_since makes fails
      fails_to_read answers source_faults sent antenna_faults shown door_faults calls link_faults
      readings site turns links draw disk disk_now old new report) where
    -- a run is a list of events of this world
    abbrev pub RunIsEventsOf : World → Type 0
    RunIsEventsOf w = IsEvents pending sent (station_of site (length old.doors)) w over.entries
        (length old.doors) over.ran.records.records.steps report.recording
        over.ran.radiates.radiates.steps report.pass.seen over.archive_now old.antenna new.antenna

    -- A run over a disk that tells is one of each world in which nothing goes on and for one of
    -- whose file's lists the disk's content stands.
    abbrev pub RunIsEvents : Type 0
    RunIsEvents = (told : Pending) (w : World) → pending disk ≡ Some told → w.now ≡ None
        → StandsForOne w.file told.content → RunIsEventsOf w

  -- The law: of each run of a valid site.
  abbrev pub RunsAreEvents : Type 0
  RunsAreEvents = (site : Site) (turns links draw : ℕ) (disk disk_now : D)
      (old new : Outside F A G C) (report : RunReport) → IsSite site
      → (over : RanOver pending disk_faults moment images_since makes fails fails_to_read answers
      source_faults sent antenna_faults shown door_faults calls link_faults readings site turns
      links draw disk disk_now old new report)
      → RunIsEvents over
