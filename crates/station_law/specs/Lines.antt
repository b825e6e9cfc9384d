-- The lines of a script: what each answers. A line that can't be read is outside the grammar, as is
-- one whose entry isn't valid.
use Rattle.std.specs.Prelude.{ℕ, Bool, true, false, if◌then◌else◌, List, [], ◌∷◌, map, Option, Some}
use Rattle.std.specs.Prelude.{None}
use Rattle.archive_terms.specs.Archive.{Entry, is_valid}
use Rattle.record_form.specs.Entry.{entry_of}
use Rattle.station_book.specs.State.{Event, publish}
use Rattle.station_book.specs.State as books
use Rattle.station_book.specs.History.{after, event_at, replay}
use Rattle.drill_text.specs.declared.script_line.ScriptLine.{ScriptLine}
use Rattle.drill_text.specs.declared.script_line.ScriptLine.TheVariants.{Skip, Offer, Desk, Clock}
use Rattle.drill_text.specs.declared.script_line.ScriptLine.TheVariants.{Crash, Fault}
use Rattle.drill_text.specs.Reading.{reading}
use Rattle.sle_numbers.specs.RequestedFrameQuality.{number_of}
use Rattle.station_uplink.specs.declared.turn.Turn.{Turn}
use Rattle.station_uplink.specs.Turns.{Uplink, without_air, Turned, turned, turn_of}
use Rattle.script_store.specs.declared.outcome.Outcome.{Outcome}
use Rattle.script_store.specs.declared.outcome.Outcome.TheVariants.{Stored, Refused, Crashed}
use Rattle.script_store.specs.declared.outcome.Outcome.TheVariants.{Failed}
use Rattle.script_store.specs.Store.{Store}
use Rattle.station_law.specs.Doors.{Doors, anew, Acted, act, doors_after}
use Rattle.station_desk.specs.Start.{moment}
use Rattle.station_law.specs.State.{State}
use Rattle.script_store.specs.Said.{linked, uplink}
use Rattle.script_store.specs.Answer.{Answer, says, is_wrong}
use Rattle.script_store.specs.Entries.{offer}
use Rattle.station_law.specs.Desk.{desk}
use Rattle.script_store.specs.Orders.{pick_of}
use Rattle.script_store.specs.Power.{crash_line, fault_line}

-- ---- what is stored, and the book

-- the event of a book to which entries are published, if any are
abbrev pub publishing : books.State → List Entry → List Event
publishing b [] = []
publishing b (entry ∷ entries) = event_at b (publish (entry ∷ entries)) ∷ []

-- A recovery makes the book new, over what it found, and no connection outlives it. Else the book
-- gets what was given to stores.
abbrev pub doors_behind : Bool → Doors → List Entry → List Entry → Doors
doors_behind true d given found = anew d.site found
doors_behind false d given found = record d { book = replay d.book (publishing d.book given) }

-- a power failure leaves nothing in the air
abbrev pub uplink_behind : Bool → Uplink → Uplink
uplink_behind true u = without_air u
uplink_behind false u = u

-- a line that concerns what is stored
abbrev pub recorded : State → Answer Store → Answer State
recorded state a = record {
  said = a.said;
  given = a.given;
  recovers = a.recovers;
  done = a.done;
  next = record state {
    store = a.next;
    doors = doors_behind a.recovers state.doors a.given a.next.published;
    uplink = uplink_behind a.recovers state.uplink;
  };
}

-- an entry is offered
abbrev pub offered : State → Entry → Answer State
offered state entry = recorded state (offer state.store entry)

-- the uplink behind what became of an entry
abbrev pub uplink_by : Outcome → Uplink → Uplink
uplink_by (Crashed count) u = without_air u
uplink_by _ u = u

-- the doors behind what became of an entry
abbrev pub doors_by : Outcome → Entry → List Entry → Doors → Doors
doors_by (Refused why) entry published d = d
doors_by Stored entry published d =
    record d { book = after d.book (publish (entry ∷ [])) }
doors_by (Failed count) entry published d =
    record d { book = after d.book (publish (entry ∷ [])) }
doors_by (Crashed count) entry published d = anew d.site published

-- a line of a connection
abbrev pub connected : State → Option Acted → Answer State
connected state None = is_wrong state
connected state (Some a) =
    says (map (linked a.c) a.said) (record state { doors = doors_after state.doors a })

-- ---- turns of the uplink

-- a turn on the book, at the clock's reading
abbrev pub turn_at : State → Turn → Option Turned
turn_at state turn = turned state.doors.book state.clock state.uplink turn

abbrev pub uplinked : State → Option Turned → Answer State
uplinked state None = is_wrong state
uplinked state (Some t) = says (map uplink t.said) (record state {
  doors = record state.doors { book = replay state.doors.book t.events };
  uplink = t.next;
})

-- a line that is a turn of the uplink, or else one of a connection
abbrev pub turned_or_acted : State → ScriptLine → Option Turn → Answer State
turned_or_acted state line (Some turn) = uplinked state (turn_at state turn)
turned_or_acted state line None = connected state (act state.doors state.clock line)

-- ---- the lines

abbrev pub step : State → ScriptLine → Answer State
step state Skip = says [] state
step state (Offer entry) =
    if is_valid (entry_of entry) then offered state (entry_of entry) else is_wrong state
step state (Desk start stop quality) = recorded state
    (desk state.store start stop (number_of quality))
step state (Clock at) = says [] (record state { clock = moment at })
step state (Crash k pick) = recorded state (crash_line state.store k (pick_of pick))
step state (Fault k) = recorded state (fault_line state.store k)
step state line = turned_or_acted state line (turn_of line)

-- what a line of octets answers, its end left away
abbrev pub step_read : State → Option ScriptLine → Answer State
step_read state None = is_wrong state
step_read state (Some line) = step state line

abbrev pub step_text : State → List ℕ → Answer State
step_text state text = step_read state (reading text)
