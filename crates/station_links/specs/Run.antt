-- Whole runs of a connection: what comes and what is ordered, and its rounds, each on a book at a
-- reading of the clock.
use Rattle.std.specs.Prelude.{◌≡◌, ℕ, is_some, if◌then◌else◌, Option, Some, None, List, []}
use Rattle.std.specs.Prelude.{◌∷◌, ◌++◌}
use Rattle.std.specs.List.{AllByRecursion}
use Rattle.link_model.specs.Steering.{Steering, with_piece, shut_behind, broken_next, stalling_for}
use Rattle.station_config.specs.declared.site.Site.{Site}
use Rattle.station_book.specs.State.{Event, quit}
use Rattle.station_book.specs.State as book
use Rattle.station_book.specs.History.{event_at}
use Rattle.drill_text.specs.declared.end_word.EndWord.{EndWord}
use Rattle.session_core.specs.Session.{State, Round, AreRounds, AreOctets}
use Rattle.session_core.specs.Session.{session_events, session_end}
use Rattle.station_links.specs.declared.link_line.LinkLine.{LinkLine}
use Rattle.station_links.specs.LinkLines.{end_of, end_lines}
use Rattle.station_links.specs.Connected.{Connected, steered_by}
use Rattle.station_links.specs.Rounds.{round_at, round_of, stands_after, end_after, session_lines}

-- a piece comes, the peer closes behind the pieces, the next poll is broken, or so many of the next
-- offers stall
pub data Order : Type 0 where
  comes : List ℕ → Order
  shuts : Order
  breaks : Order
  stalls_for : ℕ → Order

-- an order, or a round on a book at a reading
pub data Deed : Type 0 where
  ordered : Order → Deed
  turns : book.State → ℕ → Deed

abbrev pub order_in : Order → Steering → Steering
order_in (comes piece) s = with_piece s piece
order_in shuts s = shut_behind s
order_in breaks s = broken_next s
order_in (stalls_for offers) s = stalling_for s offers

abbrev pub obeyed : Order → Connected → Connected
obeyed o l = steered_by (order_in o) l

-- what the lines of a script say of a connection, until it isn't there any more
abbrev pub said_by : Site → ℕ → Connected → List Deed → List LinkLine
said_by site door l [] = []
said_by site door l (ordered o ∷ deeds) = said_by site door (obeyed o l) deeds
said_by site door l (turns b reading ∷ deeds) =
    let r = round_at site door l b reading in
    (round_of site door l b reading).said
    ++ (if is_some (end_after site l r) then []
    else said_by site door (stands_after site l r) deeds)

-- its events of the book, that of its end among them
abbrev pub events_by : Site → ℕ → Connected → List Deed → List Event
events_by site door l [] = []
events_by site door l (ordered o ∷ deeds) = events_by site door (obeyed o l) deeds
events_by site door l (turns b reading ∷ deeds) =
    let r = round_at site door l b reading in
    (round_of site door l b reading).events
    ++ (if is_some (end_after site l r) then []
    else events_by site door (stands_after site l r) deeds)

-- the rounds that it makes, by the answers that the steering and the book fix
abbrev pub rounds_by : Site → ℕ → Connected → List Deed → List Round
rounds_by site door l [] = []
rounds_by site door l (ordered o ∷ deeds) = rounds_by site door (obeyed o l) deeds
rounds_by site door l (turns b reading ∷ deeds) =
    let r = round_at site door l b reading in
    r ∷ (if is_some (end_after site l r) then []
    else rounds_by site door (stands_after site l r) deeds)

-- pieces are lists of octets
abbrev pub ArePieces : List (List ℕ) → Type 0
ArePieces pieces = AllByRecursion AreOctets pieces

abbrev pub BringsPieces : Deed → Type 0
BringsPieces (ordered (comes piece)) = AreOctets piece
BringsPieces _ = Unit {0}

-- the quit of a door, on some book, where a connection ended
pub record Quits (door : ℕ) (events : List Event) : Type 0 where
  pub last : book.State
  pub is : events ≡ event_at last (quit door) ∷ []

abbrev pub EndsWith : ℕ → Option EndWord → List Event → Type 0
EndsWith door None events = events ≡ []
EndsWith door (Some why) events = Quits door events

-- What was said and asked is *Session* of these rounds: each taken or stalled offer of its calls,
-- what was dropped behind a round's calls, and its end, once and last; and the book's events, behind which the end quits.
pub record IsSession (site : Site) (door : ℕ) (s : State) (said : List LinkLine)
    (events : List Event) (rounds : List Round) : Type 0 where
  pub right : AreRounds site s rounds
  pub said_is : said ≡ session_lines site s rounds
      ++ end_lines (end_of (session_end site s rounds))
  pub last : List Event
  pub events_are : events ≡ session_events site door s rounds ++ last
  pub ends : EndsWith door (end_of (session_end site s rounds)) last

-- Over any pieces, closes, breaks, stalls, books and readings.
abbrev pub RunsAreSessions : Type 0
RunsAreSessions =
    (site : Site) (door : ℕ) (l : Connected) (deeds : List Deed)
    → end_of (session_end site l.state []) ≡ None → ArePieces l.steering.pieces
    → AllByRecursion BringsPieces deeds
    → IsSession site door l.state (said_by site door l deeds) (events_by site door l deeds)
    (rounds_by site door l deeds)
