-- The lines of a script as events of a station's world. This product's own.
use Rattle.std.specs.Prelude.{ℕ, zero, suc, ◌==◌, Bool, true, false, not, nat_lt, if◌then◌else◌}
use Rattle.std.specs.Prelude.{Option, Some, None, List, [], ◌∷◌, ◌++◌, slice_get}
use Rattle.cds_time.specs.declared.cds.Cds.{Cds}
use Rattle.archive_terms.specs.Archive.{Entry, is_valid}
use Rattle.archive_terms.specs.Selection.{by_quality}
use Rattle.archive_terms.specs.Delivery.{offline}
use Rattle.record_form.specs.Entry.{entry_of}
use Rattle.sle_numbers.specs.RequestedFrameQuality.{number_of}
use Rattle.cltu_queue.specs.declared.taken.Taken.{Taken}
use Rattle.cltu_queue.specs.declared.taken.Taken.TheVariants.{Radiate}
use Rattle.station_config.specs.declared.site.Site.{Site}
use Rattle.station_book.specs.Origin.{opening_of}
use Rattle.station_book.specs.State.{Opening, take, interrupted, Event as Answered}
use Rattle.station_book.specs.State as books
use Rattle.station_book.specs.History.{event_at, after, replay}
use Rattle.station_uplink.specs.declared.turn.Turn.{Turn}
use Rattle.station_uplink.specs.declared.turn.Turn.TheVariants as turns
use Rattle.station_uplink.specs.Turns.{turn_of, found, events_of as turned_events}
use Rattle.drill_text.specs.declared.script_line.ScriptLine.{ScriptLine}
use Rattle.drill_text.specs.declared.script_line.ScriptLine.TheVariants.{Skip, Offer, Desk, Clock}
use Rattle.drill_text.specs.declared.script_line.ScriptLine.TheVariants.{Crash, Fault}
use Rattle.station_desk.specs.declared.limits.TheConstants.{BUFFER_ITEMS}
use Rattle.station_desk.specs.Start.{moment}
use Rattle.station_world.specs.Life.{Asked}
use Rattle.station_world.specs.World.{World, Event, after_events}
use Rattle.station_world.specs.Calls.{call_events}
use Rattle.station_links.specs.Connected.{Connected}
use Rattle.station_links.specs.Rounds.{round_at, round_of}
use Rattle.line_events.specs.Forms.{store_events, struck_events, failed_events, power_events}
use Rattle.line_events.specs.Forms.{clock_events, start_events, radiate_events}
use Rattle.line_events.specs.Progress.{Progress, progress_events}
use Rattle.session_events.specs.Rounds.{progress_in}
use Rattle.script_store.specs.declared.order.Order.{Order}
use Rattle.script_store.specs.declared.order.Strike.{Strike}
use Rattle.script_store.specs.declared.order.Strike.TheVariants.{Stop, Fail}
use Rattle.script_store.specs.declared.refusal.Refusal.{Refusal}
use Rattle.script_store.specs.Store.{Store}
use Rattle.script_store.specs.Orders.{is_hit, leaves_entry}
use Rattle.script_store.specs.Entries.{refusal}
use Rattle.station_law.specs.Doors.{Act, act_of, ordered}
use Rattle.station_law.specs.State.{State}
use Rattle.station_law.specs.Lines.{turn_at}

-- the origin of a site's book in a script: a power failure of it opens the same one
abbrev pub origin : Site → Opening
origin site = opening_of site [] 0

-- ---- an entry's line

-- its store is hit, and the file has it then or hasn't
abbrev pub struck_by : Opening → Entry → Strike → Bool → List Event
struck_by o entry (Stop pick) has = struck_events o entry has
struck_by o entry Fail has = failed_events entry has

-- it is stored while this order stands for the disk
abbrev pub stored_under : Opening → Entry → Option Order → List Event
stored_under o entry None = store_events entry
stored_under o entry (Some order) =
    if is_hit order then struck_by o entry order.strike (leaves_entry order.strike order.calls)
    else store_events entry

-- a refused one is no event
abbrev pub by_refusal : Opening → Entry → Option Order → Option Refusal → List Event
by_refusal o entry order None = stored_under o entry order
by_refusal o entry order (Some why) = []

abbrev pub entry_line : Opening → Store → Entry → List Event
entry_line o store entry = by_refusal o entry store.order (refusal store entry)

-- ---- a START of the desk

-- what it asks for: the desk is an offline instance at door 0
abbrev pub asked : Cds → Cds → ℕ → Asked
asked start stop quality = record {
  door = 0;
  mode = offline;
  size = BUFFER_ITEMS;
  latency = 0;
  filter = by_quality quality;
  start = Some (moment start);
  stop = Some (moment stop);
}

-- one that is refused is no event
abbrev pub desk_line : State → World → Cds → Cds → ℕ → List Event
desk_line state w start stop quality =
    if nat_lt (moment stop) (moment start) then []
    else start_events (asked start stop quality) w state.store.published state.clock

-- ---- rounds of a connection

-- a round calls the book, and behind that makes something of the START of its door
abbrev pub round_events : World → ℕ → List Answered → Progress → List Event
round_events w c h p =
    call_events h ++ progress_events c (after_events w (call_events h)) p

-- so many rounds at a reading of the clock, as long as the connection is there
abbrev pub rounds_events : Site → ℕ → ℕ → World → ℕ → books.State → Option Connected → List Event
rounds_events site c reading w zero b l = []
rounds_events site c reading w (suc n) b None = []
rounds_events site c reading w (suc n) b (Some l) =
    let turned = round_of site c l b reading in
    let events = round_events w c turned.events
    (progress_in c site l.state (round_at site c l b reading)) in
    events
    ++ rounds_events site c reading (after_events w events) n (replay b turned.events) turned.next

-- those of a line, where the connection is there
abbrev pub acted_events : State → World → Act → Option (Option Connected) → List Event
acted_events state w a (Some (Some l)) =
    rounds_events state.doors.site a.c state.clock w a.rounds state.doors.book
    (Some (ordered a.order l))
acted_events state w a _ = []

abbrev pub act_events : State → World → Option Act → List Event
act_events state w None = []
act_events state w (Some a) = acted_events state w a (slice_get state.doors.connections a.c)

-- ---- turns of the uplink

-- a CLTU whose send fails is interrupted
abbrev pub interrupts : Bool → books.State → ℕ → ℕ → ℕ → List Answered
interrupts true b run id reading = event_at b (interrupted run id reading) ∷ []
interrupts false b run id reading = []

-- what a take gives is sent, or its send fails
abbrev pub take_events : books.State → ℕ → Bool → Taken → List Event
take_events b reading fail (Radiate run id octets) = radiate_events reading (not fail)
    (interrupts fail (after b (take reading)) run id reading)
take_events b reading fail _ = call_events (event_at b (take reading) ∷ [])

abbrev pub turn_events : State → Turn → List Event
turn_events state (turns.Take fail) = take_events state.doors.book state.clock fail
    (found state.doors.book state.clock)
turn_events state turn = call_events (turned_events (turn_at state turn))

-- of a line that is a turn, or else a connection's
abbrev pub events_by : State → World → ScriptLine → Option Turn → List Event
events_by state w line (Some turn) = turn_events state turn
events_by state w line None = act_events state w (act_of line)

-- ---- lines

-- Of a line in a world. A connection's line is, round by round, its calls of the book and what it
-- makes of a START, and a turn of the uplink its calls and what it sends; a line that changes
-- nothing, or orders something of the disk's later calls, is no event.
abbrev pub events_of : State → World → ScriptLine → List Event
events_of state w Skip = []
events_of state w (Offer entry) =
    if is_valid (entry_of entry)
    then entry_line (origin state.doors.site) state.store (entry_of entry) else []
events_of state w (Desk start stop quality) = desk_line state w start stop (number_of quality)
events_of state w (Clock at) = clock_events (moment at)
events_of state w (Crash k pick) = if k == 0 then power_events (origin state.doors.site) else []
events_of state w (Fault k) = []
events_of state w line = events_by state w line (turn_of line)

-- none of a line that can't be read
abbrev pub events_read : State → World → Option ScriptLine → List Event
events_read state w None = []
events_read state w (Some line) = events_of state w line
