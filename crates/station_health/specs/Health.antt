-- What is wrong with a station, and whether it is healthy. This product's own rules.
use Rattle.std.specs.Prelude.{ℕ, ◌-◌, ◌/◌, Bool, true, false, not, ◌&&◌, ◌||◌, ◌==◌}
use Rattle.std.specs.Prelude.{if◌then◌else◌, nat_lt, List, [], ◌∷◌, ◌++◌, codes}
use Rattle.std.specs.List.{flat_map, list_any}
use Rattle.station_snapshot.specs.declared.snapshot.Snapshot.{Snapshot}
use Rattle.station_snapshot.specs.declared.snapshot.ArchiveNow.{ArchiveNow}
use Rattle.station_snapshot.specs.declared.snapshot.AntennaNow.{AntennaNow}
use Rattle.station_snapshot.specs.declared.snapshot.RecorderNow.{RecorderNow}
use Rattle.station_snapshot.specs.declared.door_now.DoorNow.{DoorNow}
use Rattle.station_snapshot.specs.declared.door_now.DoorState.{DoorState}
use Rattle.station_snapshot.specs.declared.door_now.DoorState.TheVariants as state
use Rattle.station_health.specs.declared.trouble.Trouble.{Trouble}
use Rattle.station_health.specs.declared.trouble.Trouble.TheVariants as t
use Rattle.station_health.specs.declared.rules.TheConstants.{TURN_MILLIS, CLOCK_MILLIS}

-- more milliseconds than a limit lie between a moment and a later one
abbrev pub is_past : ℕ → ℕ → ℕ → Bool
is_past limit since at = nat_lt limit (at - since)

-- ---- the workers: each makes a turn again and again

-- a recorder that isn't at its end
abbrev pub recorder_late : RecorderNow → ℕ → Bool
recorder_late r at = not r.is_ended && is_past TURN_MILLIS r.turned at

-- an antenna's worker: in a sending the sending's limit counts, else its last turn
abbrev pub antenna_late : AntennaNow → ℕ → Bool
antenna_late a at = if a.sending == 0 then is_past TURN_MILLIS a.turned at
    else is_past a.limit a.sending at

abbrev pub is_serving : DoorState → Bool
is_serving state.Waiting = false
is_serving state.Serving = true
is_serving state.Spent = false
is_serving state.Failed = false
is_serving state.Closed = false

-- a door's worker, but for one that waits for a user
abbrev pub door_late : ℕ → DoorNow → Bool
door_late at d = is_serving d.state && is_past TURN_MILLIS d.turned at

abbrev pub worker_late : Snapshot → Bool
worker_late s = recorder_late s.recorder s.at || antenna_late s.antenna s.at
    || list_any (λ door. door_late s.at door) s.doors.items

-- ---- the archive

-- the last entry wouldn't fit once more
abbrev pub is_full : ArchiveNow → Bool
is_full a = nat_lt 0 a.capacity && nat_lt (a.capacity - a.octets) a.needed

-- less than a tenth of it is free
abbrev pub is_almost_full : ArchiveNow → Bool
is_almost_full a = not (is_full a) && nat_lt (a.capacity - a.octets) (a.capacity / 10)

-- ---- the doors

abbrev pub is_failed : DoorState → Bool
is_failed state.Waiting = false
is_failed state.Serving = false
is_failed state.Spent = false
is_failed state.Failed = true
is_failed state.Closed = false

abbrev pub is_spent : DoorState → Bool
is_spent state.Waiting = false
is_spent state.Serving = false
is_spent state.Spent = true
is_spent state.Failed = false
is_spent state.Closed = false

-- it serves a user, or may
abbrev pub is_open : DoorState → Bool
is_open state.Waiting = true
is_open state.Serving = true
is_open state.Spent = false
is_open state.Failed = false
is_open state.Closed = false

abbrev pub no_door : Snapshot → Bool
no_door s = not (list_any (λ door. is_open door.state) s.doors.items)

-- ---- the clock and the source

abbrev pub clock_off : Snapshot → Bool
clock_off s = is_past CLOCK_MILLIS s.at s.wall || is_past CLOCK_MILLIS s.wall s.at

-- entries are expected, and none came for so long, nor did the station begin meanwhile
abbrev pub no_entry : Snapshot → Bool
no_entry s = nat_lt 0 s.expected && is_past s.expected s.source.entered s.at
    && is_past s.expected s.began s.at

-- ---- the troubles, the serious ones first

unfoldable pub troubles : List Trouble
troubles = t.RecorderEnded ∷ t.DiskFailing ∷ t.ArchiveFull ∷ t.NoDoor ∷ t.AntennaFailing
    ∷ t.WorkerLate ∷ t.Stopping ∷ t.SyncFailed ∷ t.ArchiveAlmostFull
    ∷ t.DoorFailed ∷ t.DoorSpent ∷ t.ClockOff ∷ t.NoEntry ∷ []

abbrev pub is_there : Trouble → Snapshot → Bool
is_there t.RecorderEnded s = s.recorder.is_ended
is_there t.DiskFailing s = s.archive.is_failing
is_there t.ArchiveFull s = is_full s.archive
is_there t.NoDoor s = no_door s
is_there t.AntennaFailing s = s.antenna.is_failing
is_there t.WorkerLate s = worker_late s
is_there t.Stopping s = s.is_stopping
is_there t.SyncFailed s = nat_lt 0 s.archive.failed_syncs
is_there t.ArchiveAlmostFull s = is_almost_full s.archive
is_there t.DoorFailed s = list_any (λ door. is_failed door.state) s.doors.items
is_there t.DoorSpent s = list_any (λ door. is_spent door.state) s.doors.items
is_there t.ClockOff s = clock_off s
is_there t.NoEntry s = no_entry s

-- a station that has it isn't healthy
abbrev pub is_serious : Trouble → Bool
is_serious t.RecorderEnded = true
is_serious t.DiskFailing = true
is_serious t.ArchiveFull = true
is_serious t.NoDoor = true
is_serious t.AntennaFailing = true
is_serious t.WorkerLate = true
is_serious t.Stopping = true
is_serious t.SyncFailed = false
is_serious t.ArchiveAlmostFull = false
is_serious t.DoorFailed = false
is_serious t.DoorSpent = false
is_serious t.ClockOff = false
is_serious t.NoEntry = false

abbrev pub harms : Snapshot → Trouble → Bool
harms s trouble = is_serious trouble && is_there trouble s

-- no serious trouble is there
abbrev pub is_healthy : Snapshot → Bool
is_healthy s = not (list_any (λ trouble. harms s trouble) troubles)

-- its name for programs
abbrev pub trouble_name : Trouble → List ℕ
trouble_name t.RecorderEnded = codes "recorder_ended"
trouble_name t.DiskFailing = codes "disk_failing"
trouble_name t.ArchiveFull = codes "archive_full"
trouble_name t.NoDoor = codes "no_door"
trouble_name t.AntennaFailing = codes "antenna_failing"
trouble_name t.WorkerLate = codes "worker_late"
trouble_name t.Stopping = codes "stopping"
trouble_name t.SyncFailed = codes "sync_failed"
trouble_name t.ArchiveAlmostFull = codes "archive_almost_full"
trouble_name t.DoorFailed = codes "door_failed"
trouble_name t.DoorSpent = codes "door_spent"
trouble_name t.ClockOff = codes "clock_off"
trouble_name t.NoEntry = codes "no_entry"

-- what is wrong
abbrev pub trouble_words : Trouble → List ℕ
trouble_words t.RecorderEnded =
    codes "the recorder has ended, and entries are no longer stored"
trouble_words t.DiskFailing =
    codes "the archive's disk failed, and nothing was synced since"
trouble_words t.ArchiveFull =
    codes "the archive is full, and entries are refused"
trouble_words t.NoDoor =
    codes "no door takes a user any more"
trouble_words t.AntennaFailing =
    codes "the antenna's last sending failed"
trouble_words t.WorkerLate =
    codes "a worker has made no turn for 30 s, or a sending is too long"
trouble_words t.Stopping =
    codes "a stop was asked for"
trouble_words t.SyncFailed =
    codes "a sync of the archive's file failed"
trouble_words t.ArchiveAlmostFull =
    codes "the archive is above 90 percent full"
trouble_words t.DoorFailed =
    codes "a door failed, and takes no more users"
trouble_words t.DoorSpent =
    codes "a door gave the last of its connections"
trouble_words t.ClockOff =
    codes "the machine's clock is more than 1 s off the station's time"
trouble_words t.NoEntry =
    codes "no entry came for longer than expected"

-- what to do
abbrev pub trouble_advice : Trouble → List ℕ
trouble_advice t.RecorderEnded =
    codes "read the log and start the station again"
trouble_advice t.DiskFailing =
    codes "read the log and look at the disk"
trouble_advice t.ArchiveFull =
    codes "stop the station and make a new archive"
trouble_advice t.NoDoor =
    codes "read the log and start the station again"
trouble_advice t.AntennaFailing =
    codes "look at the antenna"
trouble_advice t.WorkerLate =
    codes "read the log; start the station again if this lasts"
trouble_advice t.Stopping =
    codes "wait for the station's end"
trouble_advice t.SyncFailed =
    codes "don't open the file again before the machine or its volume was started again"
trouble_advice t.ArchiveAlmostFull =
    codes "stop the station after this pass and make a new archive"
trouble_advice t.DoorFailed =
    codes "read the log; start the station again after this pass"
trouble_advice t.DoorSpent =
    codes "start the station again after this pass"
trouble_advice t.ClockOff =
    codes "start the station again after this pass"
trouble_advice t.NoEntry =
    codes "look at the source of entries"

-- ---- the text of it

abbrev pub weight_word : Bool → List ℕ
weight_word serious = if serious then codes "failure: " else codes "warning: "

unfoldable pub line_of : Trouble → List ℕ
line_of trouble = weight_word (is_serious trouble) ++ trouble_words trouble ++ codes "; "
    ++ (trouble_advice trouble ++ 10 ∷ [])

abbrev pub trouble_line : Snapshot → Trouble → List ℕ
trouble_line s trouble = if is_there trouble s then line_of trouble else []

abbrev pub verdict : Bool → List ℕ
verdict healthy = if healthy then codes "healthy\n" else codes "unhealthy\n"

-- whether it is healthy, and a line for each trouble that is there
abbrev pub health_text : Snapshot → List ℕ
health_text s = verdict (is_healthy s) ++ flat_map (trouble_line s) troubles
