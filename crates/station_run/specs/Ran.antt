-- What came of a station's run. This product's own.
use Rattle.std.specs.Prelude.{◌≡◌, ◌⊎◌, ℕ, ◌+◌, ◌-◌, List, [], ◌∷◌, All, length, Option, IfSome}
use Rattle.archive_terms.specs.Archive.{Entry}
use Rattle.cds_time.specs.declared.cds.Cds.{Cds}
use Rattle.disk_model.specs.Images.{Pending}
use Rattle.disk_model.specs.Moments.{IsImageOf, HoldsThroughout}
use Rattle.disk_model.specs.Calls.{AllMade}
use Rattle.disk_model.specs.declared.call.Call.{Call as DiskCall}
use Rattle.gate_journal.specs.JournalState.{recovering, FailsToRecover}
use Rattle.frame_archive.specs.Acknowledges.{Acknowledges, Uses}
use Rattle.frame_archive.specs.Faults.{RefusesDisk}
use Rattle.frame_archive.specs.State.{ArchiveState, at_rest}
use Rattle.frame_archive.specs.declared.fault.ArchiveFault.TheVariants as archives
use Rattle.recorder.specs.Feeds.{Answer}
use Rattle.link_model.specs.declared.call.Call.{Call as LinkCall}
use Rattle.door_model.specs.Shown.{Shown}
use Rattle.turn_lock.specs.PassState.{PassState, Lock}
use Rattle.turn_lock.specs.Own.{MakeUp}
use Rattle.turn_lock.specs.declared.view.Mark.{Mark}
use Rattle.station_config.specs.declared.site.Site.{Site}
use Rattle.station_book.specs.State.{Opening, opened, Event}
use Rattle.station_book.specs.History.{replay, IsLegal}
use Rattle.station_book.specs.Origin.{opening_of}
use Rattle.station_seats.specs.Seats.{IsFresh, owns_of, reports_of}
use Rattle.station_seats.specs.declared.seat.DoorSeat.{DoorSeat}
use Rattle.recorder_turns.specs.Steps as recorder
use Rattle.antenna_turns.specs.Radiating as antenna
use Rattle.door_turns.specs.Doors.{EachWorks}
use Rattle.station_run.specs.Workers.{RecordsAt, RadiatesAt}
use Rattle.station_run.specs.declared.report.RunReport.{RunReport}
use Rattle.station_run.specs.declared.report.StartFault.{StartFault}
use Rattle.station_run.specs.declared.report.StartFault.TheVariants.{NotJournal, Damaged, DiskFault, Memory}

-- how many entries were published in a history, beside those of its origin
abbrev pub published_count : Opening → List Event → ℕ
published_count origin history =
    length (replay (opened origin) history).published - length origin.entries

-- A closed history: it is legal from the lock's origin, and made up of the events of these lists,
-- each once.
pub record IsHistory (lock : Lock Opening) (history : List Event) (lists : List (List (Mark Event)))
    : Type 0 where
  pub legal : IsLegal (opened lock.origin) history
  pub make_up : MakeUp history lists

-- what the outside of a run is: its source of entries, its antenna with a clock, and its doors with
-- theirs
pub record Outside (F A G C : Type 0) : Type 0 where
  pub frames : F
  pub antenna : A
  pub antenna_clock : C
  pub doors : List G
  pub clocks : List C

abbrev pub outside : {F A G C : Type 0} → F → A → C → List G → List C → Outside F A G C
outside frames antenna antenna_clock doors clocks = record {
  frames = frames;
  antenna = antenna;
  antenna_clock = antenna_clock;
  doors = doors;
  clocks = clocks;
}

-- A run over an archive, whose entries at its opening were these. The recorder, the antenna's worker
-- and each door's began with so many turns and no events, and did what their reports say; the
-- history is made up of what each has as its own. As many entries were published as the report says.
pub record Ran {D F A G L C : Type 0} (pending : D → Option Pending) (disk_faults : D → ℕ)
    (makes fails : D → DiskCall → D → Type 0) (fails_to_read : D → D → Type 0)
    (answers : F → Option (List Answer)) (source_faults : F → ℕ)
    (sent : A → Option (List (List ℕ))) (antenna_faults : A → ℕ) (shown : G → Option Shown)
    (door_faults : G → ℕ) (calls : L → Option (List LinkCall)) (link_faults : L → ℕ)
    (readings : C → Option (List Cds)) (site : Site) (turns links draw : ℕ)
    (entries : List Entry) (archive archive_now : ArchiveState D) (old new : Outside F A G C)
    (report : RunReport) : Type 0 where
  pub lock : Lock Opening
  pub origin : lock.origin ≡ opening_of site entries (length old.doors + 1)
  pub recorder_pass : PassState Event Opening
  pub recorder_now : PassState Event Opening
  pub recorder_fresh : IsFresh lock turns recorder_pass
  pub records : RecordsAt pending disk_faults makes fails fails_to_read answers source_faults lock
      (length old.doors) report.recording (recorder.worker archive old.frames recorder_pass)
      (recorder.worker archive_now new.frames recorder_now)
  pub antenna_pass : PassState Event Opening
  pub antenna_now : PassState Event Opening
  pub antenna_fresh : IsFresh lock turns antenna_pass
  pub radiates : RadiatesAt sent antenna_faults readings lock (length old.doors + 1)
      report.radiating (antenna.worker old.antenna old.antenna_clock antenna_pass)
      (antenna.worker new.antenna new.antenna_clock antenna_now)
  pub seats : List DoorSeat
  pub seats_now : List DoorSeat
  pub seats_fresh : All (λ seat. IsFresh lock turns seat.pass) seats
  pub works : EachWorks shown door_faults calls link_faults readings lock site draw links 0 seats
      seats_now old.doors new.doors old.clocks new.clocks
  pub reports : report.doors.items ≡ reports_of seats_now
  pub history : IsHistory lock report.pass.seen
      ([] ∷ recorder_now.own ∷ antenna_now.own ∷ [] ∷ owns_of seats_now)
  pub published : report.published ≡ published_count lock.origin report.pass.seen

-- A run over a disk: its archive was opened over what the disk had, and it ran over that archive,
-- whose disk is handed back.
pub record RanOver {D F A G L C : Type 0} (pending : D → Option Pending) (disk_faults moment : D → ℕ)
    (images_since : D → ℕ → List ℕ → Type 0) (makes fails : D → DiskCall → D → Type 0)
    (fails_to_read : D → D → Type 0) (answers : F → Option (List Answer)) (source_faults : F → ℕ)
    (sent : A → Option (List (List ℕ))) (antenna_faults : A → ℕ) (shown : G → Option Shown)
    (door_faults : G → ℕ) (calls : L → Option (List LinkCall)) (link_faults : L → ℕ)
    (readings : C → Option (List Cds)) (site : Site) (turns links draw : ℕ) (disk disk_now : D)
    (old new : Outside F A G C) (report : RunReport) : Type 0 where
  pub entries : List Entry
  pub used : ℕ
  pub archive : ArchiveState D
  pub archive_now : ArchiveState D
  pub opened : archive ≡ at_rest archive.disk site.capacity used entries
  pub stands : IfSome (pending disk) (λ told. Uses entries used told.content)
  pub acknowledged : IfSome (pending disk) (λ _. Acknowledges pending archive entries)
  pub any_moment : HoldsThroughout moment images_since disk archive.disk (IsImageOf (pending disk))
  pub opening : AllMade makes disk recovering archive.disk
  pub ran : Ran pending disk_faults makes fails fails_to_read answers source_faults sent
      antenna_faults shown door_faults calls link_faults readings site turns links draw entries
      archive archive_now old new report
  pub disk_is : disk_now ≡ archive_now.disk

-- why a station doesn't start, by what its disk had and how often that had failed before and after
abbrev pub RefusesStart : StartFault → Option Pending → ℕ → ℕ → Type 0
RefusesStart (NotJournal place) pending before after =
    RefusesDisk (archives.NotJournal place) pending before after
RefusesStart (Damaged place) pending before after =
    RefusesDisk (archives.Damaged place) pending before after
RefusesStart DiskFault pending before after =
    RefusesDisk archives.DiskFault pending before after
RefusesStart Memory pending before after = Unit {0}

-- What a station that doesn't start leaves of its disk: at every moment each image is one that the
-- disk had at first, so that a power failure leaves no more than before. Its calls were those of a
-- recovery, all of them, or, where the disk failed, those up to the one that failed.
pub record LeavesDisk {D : Type 0} (pending : D → Option Pending) (moment : D → ℕ)
    (images_since : D → ℕ → List ℕ → Type 0) (makes fails : D → DiskCall → D → Type 0)
    (fails_to_read : D → D → Type 0) (fault : StartFault) (disk disk_now : D) : Type 0 where
  pub any_moment : HoldsThroughout moment images_since disk disk_now (IsImageOf (pending disk))
  pub calls : (fault ≡ DiskFault) ⊎ AllMade makes disk recovering disk_now
  pub failed_calls : fault ≡ DiskFault → FailsToRecover makes fails fails_to_read disk disk_now
