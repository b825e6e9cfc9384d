-- The workers of a station, each from its first turn to the one in which it says that it is gone.
-- This product's own.
use Rattle.std.specs.Prelude.{◌≡◌, ℕ, ◌+◌, ◌≤◌, List, [], ◌∷◌, ◌++◌, All, length, Option, Result}
use Rattle.cds_time.specs.declared.cds.Cds.{Cds}
use Rattle.disk_model.specs.Images.{Pending}
use Rattle.disk_model.specs.declared.call.Call.{Call as DiskCall}
use Rattle.recorder.specs.Feeds.{Answer}
use Rattle.link_model.specs.declared.call.Call.{Call as LinkCall}
use Rattle.door_model.specs.Shown.{Shown}
use Rattle.turn_lock.specs.PassState.{PassState, Lock}
use Rattle.turn_lock.specs.declared.view.Mark.{Mark}
use Rattle.station_config.specs.declared.site.Site.{Site}
use Rattle.station_book.specs.State.{Opening, Event, gone}
use Rattle.station_seats.specs.Seats.{IsFresh, IsSingle, turns_of}
use Rattle.station_seats.specs.declared.seat.DoorSeat.{DoorSeat}
use Rattle.door_turns.specs.Doors.{EachWorks}
use Rattle.station_turns.specs.Turned.{IsReady}
use Rattle.recorder_turns.specs.Steps as recorder
use Rattle.recorder_turns.specs.Recording.{Records}
use Rattle.recorder_turns.specs.declared.tally.Tally.{Tally}
use Rattle.recorder_turns.specs.declared.recording_fault.RecordingFault.{RecordingFault}
use Rattle.antenna_turns.specs.Radiating as antenna
use Rattle.antenna_turns.specs.Radiating.{Radiates}
use Rattle.antenna_turns.specs.declared.radiating.Radiated.{Radiated}
use Rattle.antenna_turns.specs.declared.radiating.TurnsSpent.{TurnsSpent}

-- A worker has ended: its pass is of this lock and has no open turn, and has so many turns, those
-- left and those entered.
pub record HasEnded (lock : Lock Opening) (turns : ℕ) (pass : PassState Event Opening) : Type 0
  where
    pub ready : IsReady lock pass
    pub sum : pass.left + pass.entered ≡ turns

-- The last of a pass's own events, behind those that it had at `at`, says that the worker of this
-- number is gone.
pub record SaysGone (number : ℕ) (at new : PassState Event Opening) : Type 0 where
  pub last : Mark Event
  pub is_gone : last.event.call ≡ gone number
  pub own : new.own ≡ at.own ++ last ∷ []

-- The recorder's worker, which had come to `at` before it said that it is gone.
pub record RecordsAt {D F : Type 0} (pending : D → Option Pending) (disk_faults : D → ℕ)
    (makes fails : D → DiskCall → D → Type 0) (fails_to_read : D → D → Type 0)
    (answers : F → Option (List Answer)) (source_faults : F → ℕ) (lock : Lock Opening)
    (number : ℕ) (ended : Result Tally RecordingFault) (old new : recorder.RecorderState D F)
    : Type 0 where
  pub at : PassState Event Opening
  pub records : Records pending disk_faults makes fails fails_to_read answers source_faults lock
      ended old (recorder.worker new.archive new.frames at)
  pub says_gone : SaysGone number at new.pass

-- The antenna's worker, which radiated from `begun` to `at`, with one turn kept back, and then said
-- that it is gone. It had no event before.
pub record RadiatesAt {A C : Type 0} (sent : A → Option (List (List ℕ))) (faults : A → ℕ)
    (readings : C → Option (List Cds)) (lock : Lock Opening) (number : ℕ)
    (ended : Result Radiated TurnsSpent) (old new : antenna.AntennaState A C) : Type 0 where
  pub begun : PassState Event Opening
  pub at : PassState Event Opening
  pub no_events : begun.own ≡ []
  pub radiates : Radiates sent faults readings lock ended
      (antenna.worker old.antenna old.clock begun) (antenna.worker new.antenna new.clock at)
  pub says_gone : SaysGone number at new.pass

-- Seats for as many doors with as many clocks, 1 to as many as the lock's origin has workers, each
-- of which has so many turns and no events.
abbrev pub CanServe : {G C : Type 0} → Lock Opening → ℕ → List DoorSeat → List G → List C → Type 0
CanServe lock turns seats doors clocks =
    (length doors ≡ length seats) × (length clocks ≡ length seats) × (1 ≤ length seats)
    × (length seats ≤ lock.origin.workers) × (lock.origin.workers ≤ 31)
    × All (λ seat. IsFresh lock turns seat.pass) seats

-- The workers of all doors, which have the turns that they had.
pub record HaveServed {G L C : Type 0} (shown : G → Option Shown) (faults : G → ℕ)
    (calls : L → Option (List LinkCall)) (link_faults : L → ℕ) (readings : C → Option (List Cds))
    (lock : Lock Opening) (site : Site) (draw links : ℕ) (seats seats_now : List DoorSeat)
    (doors doors_now : List G) (clocks clocks_now : List C) : Type 0 where
  pub single : All (IsSingle lock) seats_now
  pub turns : turns_of seats_now ≡ turns_of seats
  pub count : length seats_now ≡ length seats
  pub works : EachWorks shown faults calls link_faults readings lock site draw links 0 seats
      seats_now doors doors_now clocks clocks_now
