-- The doors of a station, at which users are connected, and what the lines of a script do at them.
-- This product's own.
use Rattle.std.specs.Prelude.{ℕ, zero, suc, Option, Some, None, List, [], ◌++◌, replicate}
use Rattle.std.specs.Prelude.{slice_get, slice_set}
use Rattle.archive_terms.specs.Archive.{Entry}
use Rattle.isp1_tml.specs.Message.{spelling}
use Rattle.station_config.specs.declared.site.Site.{Site}
use Rattle.station_book.specs.State.{Event}
use Rattle.station_book.specs.State as books
use Rattle.station_book.specs.History.{replay}
use Rattle.station_book.specs.Origin.{opening_of}
use Rattle.drill_text.specs.declared.script_line.ScriptLine.{ScriptLine}
use Rattle.drill_text.specs.declared.script_line.ScriptLine.TheVariants.{Open, Piece, Ask, Shut}
use Rattle.drill_text.specs.declared.script_line.ScriptLine.TheVariants.{Break, Round, Stall}
use Rattle.station_links.specs.declared.link_line.LinkLine.{LinkLine}
use Rattle.station_links.specs.Asked.{message_of}
use Rattle.station_links.specs.Connected.{Connected, opened}
use Rattle.station_links.specs.Rounds.{round_of}
use Rattle.station_links.specs.Run.{Order, comes, shuts, breaks, stalls_for, obeyed}

-- A station's site and book, and for each door from 0 to 16 the connection at it, if one is there.
-- Door 0 is the desk's, which no line names.
pub record Doors : Type 0 where
  pub site : Site
  pub book : books.State
  pub connections : List (Option Connected)

-- a new book over these entries, and no connection
abbrev pub anew : Site → List Entry → Doors
anew site entries = record {
  site = site;
  book = books.opened (opening_of site entries 0);
  connections = replicate 17 None;
}

-- ---- rounds

-- what rounds of a connection say, their events of the book, and how the connection stands then, if
-- it is there still
pub record Ran : Type 0 where
  pub said : List LinkLine
  pub events : List Event
  pub left : Option Connected

-- so many rounds at a reading of the clock, as long as the connection is there
abbrev pub rounds_of : Site → ℕ → ℕ → ℕ → books.State → Option Connected → Ran
rounds_of site c reading zero b l = record { said = []; events = []; left = l }
rounds_of site c reading (suc n) b None = record { said = []; events = []; left = None }
rounds_of site c reading (suc n) b (Some l) =
    let o = round_of site c l b reading in
    let rest = rounds_of site c reading n (replay b o.events) o.next in
    record { said = o.said ++ rest.said; events = o.events ++ rest.events; left = rest.left }

-- ---- lines

-- what a line asks of a connection that is there: what comes or is ordered at its link, if anything
-- is, and how many rounds are made behind that
pub record Act : Type 0 where
  pub c : ℕ
  pub order : Option Order
  pub rounds : ℕ

abbrev pub act_of : ScriptLine → Option Act
act_of (Piece c octets) = Some (record { c = c; order = Some (comes octets); rounds = 1 })
act_of (Ask c ask) =
    Some (record { c = c; order = Some (comes (spelling (message_of ask))); rounds = 1 })
act_of (Shut c) = Some (record { c = c; order = Some shuts; rounds = 1 })
act_of (Break c) = Some (record { c = c; order = Some breaks; rounds = 1 })
act_of (Round c n) = Some (record { c = c; order = None; rounds = n })
act_of (Stall c n) = Some (record { c = c; order = Some (stalls_for n); rounds = 0 })
act_of _ = None

abbrev pub ordered : Option Order → Connected → Connected
ordered None l = l
ordered (Some o) l = obeyed o l

-- a connection, what is said of it, the events of the book, and the connections behind the line
pub record Acted : Type 0 where
  pub c : ℕ
  pub said : List LinkLine
  pub events : List Event
  pub connections : List (Option Connected)

abbrev pub acted_by : Doors → ℕ → Ran → Acted
acted_by d c ran = record {
  c = c;
  said = ran.said;
  events = ran.events;
  connections = slice_set d.connections c ran.left;
}

-- a line of a connection that isn't there does nothing
abbrev pub acted_on : Doors → ℕ → Act → Option (Option Connected) → Option Acted
acted_on d reading a (Some (Some l)) =
    Some (acted_by d a.c
    (rounds_of d.site a.c reading a.rounds d.book (Some (ordered a.order l))))
acted_on d reading a _ = None

abbrev pub acted : Doors → ℕ → Option Act → Option Acted
acted d reading None = None
acted d reading (Some a) = acted_on d reading a (slice_get d.connections a.c)

-- a connection is opened at a moment, unless it is open
abbrev pub opens : Doors → ℕ → ℕ → Option (Option Connected) → Option Acted
opens d reading c (Some None) = Some (record {
  c = c;
  said = [];
  events = [];
  connections = slice_set d.connections c (Some (opened c reading));
})
opens d reading c _ = None

-- what a line does at the doors, at a reading of the clock, where it is in a right state
abbrev pub act : Doors → ℕ → ScriptLine → Option Acted
act d reading (Open c) = opens d reading c (slice_get d.connections c)
act d reading line = acted d reading (act_of line)

-- the doors behind it
abbrev pub doors_after : Doors → Acted → Doors
doors_after d a = record d { book = replay d.book a.events; connections = a.connections }
