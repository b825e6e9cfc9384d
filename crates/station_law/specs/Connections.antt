-- The life of a connection over the lines of a script: what comes to it and is ordered at its link,
-- its rounds, each on the one book of the world at the clock's reading, what is said of it, and its
-- events of the book. This product's own.
use Rattle.std.specs.Prelude.{◌≡◌, ℕ, zero, suc, ◌==◌, Bool, true, false, if◌then◌else◌, Option}
use Rattle.std.specs.Prelude.{Some, None, List, [], ◌∷◌, ◌++◌, slice_get}
use Rattle.std.specs.List.{filter, filter_map, AllByRecursion}
use Rattle.archive_terms.specs.Archive.{Entry}
use Rattle.station_config.specs.declared.site.Site.{Site}
use Rattle.station_book.specs.State.{Event}
use Rattle.station_book.specs.State as books
use Rattle.station_book.specs.History.{replay, IsLegal}
use Rattle.station_book.specs.Doors.{is_by}
use Rattle.drill_text.specs.declared.script_line.ScriptLine.{ScriptLine}
use Rattle.session_core.specs.Session.{at_first}
use Rattle.station_uplink.specs.declared.turn.Turn.{Turn}
use Rattle.station_uplink.specs.Turns.{turn_of, events_of}
use Rattle.station_links.specs.declared.link_line.LinkLine.{LinkLine}
use Rattle.station_links.specs.Connected.{Connected, draw, opened}
use Rattle.station_links.specs.Rounds.{round_of}
use Rattle.station_links.specs.Run.{Order, Deed, turns, BringsPieces, rounds_by, IsSession}
use Rattle.station_links.specs.Run as runs
use Rattle.station_law.specs.Doors.{Doors, Act, act_of, Acted, act, ordered, anew}
use Rattle.station_law.specs.State.{State}
use Rattle.script_store.specs.Said.{Said, linked}
use Rattle.station_law.specs.Standing.{there}
use Rattle.station_law.specs.Lines.{turn_at, step_read, publishing}

-- the connection at a door, if one is there
abbrev pub at_door : State → ℕ → Option Connected
at_door state c = there (slice_get state.doors.connections c)

-- ---- what a line does to a connection that is there

-- rounds at a reading, each on the book that the one before leaves, as long as it is there
abbrev pub turns_of : Site → ℕ → ℕ → ℕ → books.State → Option Connected → List Deed
turns_of site c reading zero b l = []
turns_of site c reading (suc n) b None = []
turns_of site c reading (suc n) b (Some l) =
    let o = round_of site c l b reading in
    turns b reading ∷ turns_of site c reading n (replay b o.events) o.next

abbrev pub orders_in : Option Order → List Deed
orders_in None = []
orders_in (Some o) = runs.ordered o ∷ []

-- what comes or is ordered, and then the rounds, where the line is one of this connection
abbrev pub deeds_by : Doors → ℕ → ℕ → Connected → Option Act → List Deed
deeds_by d reading c l None = []
deeds_by d reading c l (Some a) =
    if a.c == c
    then orders_in a.order ++ turns_of d.site c reading a.rounds d.book (Some (ordered a.order l))
    else []

abbrev pub deeds_at : State → ℕ → Connected → Option ScriptLine → List Deed
deeds_at state c l None = []
deeds_at state c l (Some line) = deeds_by state.doors state.clock c l (act_of line)

-- what a line says of it
abbrev pub said_of_door : ℕ → Said → Option LinkLine
said_of_door c (linked other says) = if other == c then Some says else None
said_of_door c _ = None

abbrev pub said_at : ℕ → List Said → List LinkLine
said_at c said = filter_map (said_of_door c) said

-- ---- the book's history

-- the events of a line, in which a book of before a recovery has none that is kept
abbrev pub published_by : Bool → books.State → List Entry → List Event
published_by true b given = []
published_by false b given = publishing b given

abbrev pub events_of_act : Option Acted → List Event
events_of_act None = []
events_of_act (Some a) = a.events

abbrev pub events_by_turn : State → ScriptLine → Option Turn → List Event
events_by_turn state line (Some turn) = events_of (turn_at state turn)
events_by_turn state line None = events_of_act (act state.doors state.clock line)

-- those of a turn of the uplink, or of a connection
abbrev pub own_events : State → Option ScriptLine → List Event
own_events state None = []
own_events state (Some line) = events_by_turn state line (turn_of line)

abbrev pub line_events : State → Option ScriptLine → List Event
line_events state line =
    published_by (step_read state line).recovers state.doors.book (step_read state line).given
    ++ own_events state line

-- those of a door
abbrev pub events_at : ℕ → List Event → List Event
events_at c events = filter (λ e. is_by c e.call) events

-- The site stays. The book goes on by the events of a line, which are legal behind those before; or
-- it is new, over what a recovery found, and nobody is connected.
pub record GoesOn (state : State) (line : Option ScriptLine) : Type 0 where
  pub site : (step_read state line).next.doors.site ≡ state.doors.site
  pub legal : IsLegal state.doors.book (line_events state line)
  pub same : (step_read state line).recovers ≡ false → (step_read state line).next.doors.book
      ≡ replay state.doors.book (line_events state line)
  pub renewed : (step_read state line).recovers ≡ true → (step_read state line).next.doors
      ≡ anew state.doors.site (step_read state line).next.store.published

-- ---- lives

-- what comes, is ordered and turns; what is said; and the events of the book
pub record Life : Type 0 where
  pub deeds : List Deed
  pub said : List LinkLine
  pub events : List Event

abbrev pub no_life : Life
no_life = record { deeds = []; said = []; events = [] }

-- a line in the life of the connection at a door, if one is there, with what follows
abbrev pub life_by : ℕ → State → Option ScriptLine → Option Connected → Life → Life
life_by c state line None later = no_life
life_by c state line (Some l) later = record {
  deeds = deeds_at state c l line ++ later.deeds;
  said = said_at c (step_read state line).said ++ later.said;
  events = events_at c (line_events state line) ++ later.events;
}

-- the life of the connection that is at a door, over lines, as long as it is there
module _ {L : Type 0} (reads : L → Option ScriptLine) where
  abbrev pub life : ℕ → State → List L → Life
  life c state [] = no_life
  life c state (line ∷ lines) =
      life_by c state (reads line) (at_door state c)
      (life c (step_read state (reads line)).next lines)

-- What is said of a connection that was opened at a reading, and its events of the book, is
-- *Session* of the rounds that its deeds fix.
abbrev pub IsOfSession : Site → ℕ → ℕ → Life → Type 0
IsOfSession site c reading life =
    AllByRecursion BringsPieces life.deeds
    → IsSession site c (at_first c draw reading) life.said life.events
    (rounds_by site c (opened c reading) life.deeds)

-- Of every connection that has just been opened, over any lines; and of every line, the book's
-- events.
pub record AreSessions {L : Type 0} (reads : L → Option ScriptLine) : Type 0 where
  pub lives : (state : State) (c reading : ℕ) (lines : List L)
      → at_door state c ≡ Some (opened c reading)
      → IsOfSession state.doors.site c reading (life reads c state lines)
  pub history : (state : State) (line : L) → GoesOn state (reads line)
