-- The numbers that a station shows. This product's own.
use Rattle.std.specs.Prelude.{ℕ, ◌-◌, ◌/◌, Bool, true, false, List, [], ◌∷◌, codes, if◌then◌else◌}
use Rattle.station_snapshot.specs.declared.snapshot.Snapshot.{Snapshot}
use Rattle.station_snapshot.specs.declared.door_now.DoorNow.{DoorNow}
use Rattle.station_health.specs.Health.{is_serving}
use Rattle.status_page.specs.declared.number.Number.{Number}
use Rattle.status_page.specs.declared.number.Number.TheVariants as n
use Rattle.status_page.specs.declared.door_number.DoorNumber.{DoorNumber}
use Rattle.status_page.specs.declared.door_number.DoorNumber.TheVariants as v

abbrev pub flag : Bool → ℕ
flag b = if b then 1 else 0

-- all of them, in the order in which they are written
unfoldable pub numbers : List Number
numbers =
    n.Time ∷ n.Start ∷ n.Stopping ∷ n.ClockAhead ∷ n.ClockBehind ∷ n.SourceConnections ∷
    n.SourceLines ∷ n.SourceFaults ∷ n.Frames ∷ n.Losses ∷ n.Productions ∷ n.Seals ∷
    n.Entered ∷ n.RecorderEnded ∷ n.RecorderTurn ∷ n.ArchiveOctets ∷ n.ArchiveCapacity ∷
    n.ArchiveSynced ∷ n.ArchiveFailedSyncs ∷ n.ArchiveFaults ∷ n.ArchiveFailing ∷
    n.Sent ∷ n.Unsent ∷ n.SendingEnded ∷ n.AntennaFailing ∷ n.AntennaTurn ∷ []

-- its name, in JSON and after `station_` as a metric
abbrev pub number_word : Number → List ℕ
number_word n.Time = codes "time_seconds"
number_word n.Start = codes "start_time_seconds"
number_word n.Stopping = codes "stopping"
number_word n.ClockAhead = codes "clock_ahead_milliseconds"
number_word n.ClockBehind = codes "clock_behind_milliseconds"
number_word n.SourceConnections = codes "source_connections_total"
number_word n.SourceLines = codes "source_lines_total"
number_word n.SourceFaults = codes "source_faults_total"
number_word n.Frames = codes "frames_total"
number_word n.Losses = codes "losses_total"
number_word n.Productions = codes "productions_total"
number_word n.Seals = codes "seals_total"
number_word n.Entered = codes "last_entry_time_seconds"
number_word n.RecorderEnded = codes "recorder_ended"
number_word n.RecorderTurn = codes "recorder_turn_time_seconds"
number_word n.ArchiveOctets = codes "archive_octets"
number_word n.ArchiveCapacity = codes "archive_capacity_octets"
number_word n.ArchiveSynced = codes "archive_sync_time_seconds"
number_word n.ArchiveFailedSyncs = codes "archive_failed_syncs_total"
number_word n.ArchiveFaults = codes "archive_faults_total"
number_word n.ArchiveFailing = codes "archive_failing"
number_word n.Sent = codes "telecommands_sent_total"
number_word n.Unsent = codes "telecommands_failed_total"
number_word n.SendingEnded = codes "last_telecommand_time_seconds"
number_word n.AntennaFailing = codes "antenna_failing"
number_word n.AntennaTurn = codes "antenna_turn_time_seconds"

abbrev pub number_help : Number → List ℕ
number_help n.Time = codes "The station's time, in seconds since 1970."
number_help n.Start = codes "When the station began, in seconds since 1970."
number_help n.Stopping = codes "1 once a stop was asked for."
number_help n.ClockAhead = codes "How far the machine's clock is ahead of the station's time."
number_help n.ClockBehind = codes "How far the machine's clock is behind the station's time."
number_help n.SourceConnections = codes "Connections of sources of entries."
number_help n.SourceLines = codes "Lines that came from sources."
number_help n.SourceFaults = codes "Calls of the source of entries that failed."
number_help n.Frames = codes "Frames that came."
number_help n.Losses = codes "Losses of frame synchronisation that came."
number_help n.Productions = codes "Changes of the production status that came."
number_help n.Seals = codes "Seals that came."
number_help n.Entered = codes "When the last entry came, in seconds since 1970; 0 if none has."
number_help n.RecorderEnded = codes "1 once the recorder has ended."
number_help n.RecorderTurn = codes "When the recorder began its last turn, in seconds since 1970."
number_help n.ArchiveOctets = codes "Octets of the archive's file."
number_help n.ArchiveCapacity = codes "Octets that the archive's file may have; 0 if that isn't known."
number_help n.ArchiveSynced = codes "When the archive was synced last, in seconds since 1970; 0 if it never was."
number_help n.ArchiveFailedSyncs = codes "Syncs of the archive's file that failed."
number_help n.ArchiveFaults = codes "Other calls of the archive's file that failed."
number_help n.ArchiveFailing = codes "1 if a call of the archive's file failed since the last good sync."
number_help n.Sent = codes "Telecommands that were sent."
number_help n.Unsent = codes "Telecommands that couldn't be sent."
number_help n.SendingEnded = codes "When a sending ended last, in seconds since 1970; 0 if none has."
number_help n.AntennaFailing = codes "1 if the last sending failed."
number_help n.AntennaTurn = codes "When the antenna's worker began its last turn, in seconds since 1970."

-- whether it only grows
abbrev pub is_total : Number → Bool
is_total n.Time = false
is_total n.Start = false
is_total n.Stopping = false
is_total n.ClockAhead = false
is_total n.ClockBehind = false
is_total n.SourceConnections = true
is_total n.SourceLines = true
is_total n.SourceFaults = true
is_total n.Frames = true
is_total n.Losses = true
is_total n.Productions = true
is_total n.Seals = true
is_total n.Entered = false
is_total n.RecorderEnded = false
is_total n.RecorderTurn = false
is_total n.ArchiveOctets = false
is_total n.ArchiveCapacity = false
is_total n.ArchiveSynced = false
is_total n.ArchiveFailedSyncs = true
is_total n.ArchiveFaults = true
is_total n.ArchiveFailing = false
is_total n.Sent = true
is_total n.Unsent = true
is_total n.SendingEnded = false
is_total n.AntennaFailing = false
is_total n.AntennaTurn = false

abbrev pub number_of : Number → Snapshot → ℕ
number_of n.Time s = s.at / 1000
number_of n.Start s = s.began / 1000
number_of n.Stopping s = flag s.is_stopping
number_of n.ClockAhead s = s.wall - s.at
number_of n.ClockBehind s = s.at - s.wall
number_of n.SourceConnections s = s.source.connections
number_of n.SourceLines s = s.source.lines
number_of n.SourceFaults s = s.source.faults
number_of n.Frames s = s.source.frames
number_of n.Losses s = s.source.losses
number_of n.Productions s = s.source.productions
number_of n.Seals s = s.source.seals
number_of n.Entered s = s.source.entered / 1000
number_of n.RecorderEnded s = flag s.recorder.is_ended
number_of n.RecorderTurn s = s.recorder.turned / 1000
number_of n.ArchiveOctets s = s.archive.octets
number_of n.ArchiveCapacity s = s.archive.capacity
number_of n.ArchiveSynced s = s.archive.synced / 1000
number_of n.ArchiveFailedSyncs s = s.archive.failed_syncs
number_of n.ArchiveFaults s = s.archive.faults
number_of n.ArchiveFailing s = flag s.archive.is_failing
number_of n.Sent s = s.antenna.sent
number_of n.Unsent s = s.antenna.failed
number_of n.SendingEnded s = s.antenna.ended / 1000
number_of n.AntennaFailing s = flag s.antenna.is_failing
number_of n.AntennaTurn s = s.antenna.turned / 1000

-- ---- those of a door

unfoldable pub door_numbers : List DoorNumber
door_numbers =
    v.Serving ∷ v.Links ∷ v.MostLinks ∷ v.Since ∷ v.OctetsIn ∷ v.OctetsOut ∷ v.Heard ∷
    v.Stalls ∷ v.Faults ∷ v.Turn ∷ []

-- its name, in JSON and after `station_door_` as a metric
abbrev pub door_word : DoorNumber → List ℕ
door_word v.Serving = codes "serving"
door_word v.Links = codes "links_total"
door_word v.MostLinks = codes "links_limit"
door_word v.Since = codes "since_time_seconds"
door_word v.OctetsIn = codes "octets_in_total"
door_word v.OctetsOut = codes "octets_out_total"
door_word v.Heard = codes "heard_time_seconds"
door_word v.Stalls = codes "stalls_total"
door_word v.Faults = codes "faults_total"
door_word v.Turn = codes "turn_time_seconds"

abbrev pub door_help : DoorNumber → List ℕ
door_help v.Serving = codes "1 while the door serves a user."
door_help v.Links = codes "Connections that the door gave."
door_help v.MostLinks = codes "Connections that the door may give."
door_help v.Since = codes "When the door gave its last connection, in seconds since 1970; 0 if it gave none."
door_help v.OctetsIn = codes "Octets that came from users."
door_help v.OctetsOut = codes "Octets that were taken for users."
door_help v.Heard = codes "When octets came last, in seconds since 1970; 0 if none have."
door_help v.Stalls = codes "Offers that stalled."
door_help v.Faults = codes "Calls of the door and of its connections that failed."
door_help v.Turn = codes "When the door's worker began its last turn, in seconds since 1970."

abbrev pub door_total : DoorNumber → Bool
door_total v.Serving = false
door_total v.Links = true
door_total v.MostLinks = false
door_total v.Since = false
door_total v.OctetsIn = true
door_total v.OctetsOut = true
door_total v.Heard = false
door_total v.Stalls = true
door_total v.Faults = true
door_total v.Turn = false

abbrev pub door_number_of : DoorNumber → DoorNow → ℕ
door_number_of v.Serving d = flag (is_serving d.state)
door_number_of v.Links d = d.links
door_number_of v.MostLinks d = d.most_links
door_number_of v.Since d = d.since / 1000
door_number_of v.OctetsIn d = d.octets_in
door_number_of v.OctetsOut d = d.octets_out
door_number_of v.Heard d = d.heard / 1000
door_number_of v.Stalls d = d.stalls
door_number_of v.Faults d = d.faults
door_number_of v.Turn d = d.turned / 1000
