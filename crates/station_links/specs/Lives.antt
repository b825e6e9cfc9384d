-- Which connections a value of the code stands for.
use Rattle.std.specs.Prelude.{◌≡◌, ℕ, false, Option, Some, None, List}
use Rattle.link_model.specs.declared.call.Call.{Call}
use Rattle.link_model.specs.Steering.{Steering}
use Rattle.station_book.specs.State.{Event}
use Rattle.station_book.specs.State as book
use Rattle.station_book.specs.History.{IsLegal, replay}
use Rattle.session_core.specs.Course.{is_over}
use Rattle.session_core.specs.SessionState.{SessionState}
use Rattle.session_core.specs.Lists.{Began, StandsAt, to_listen, state_after}
use Rattle.station_links.specs.declared.link_line.LinkLine.{LinkLine}
use Rattle.station_links.specs.Connected.{Connected}
use Rattle.station_links.specs.Rounds.{Outcome}

-- a connection as contracts see it: its number, what its session keeps, and how its link is steered
pub record ConnectionState : Type 0 where
  pub c : ℕ
  pub session : SessionState
  pub steering : Steering

-- It stands so: its session began so and stands for the rounds of lists of calls and events, the
-- state is the one behind them, and it hasn't ended.
pub record Lives (b : Began) (v : ConnectionState) (l : Connected) : Type 0 where
  pub c_is : v.c ≡ b.door
  pub steering : v.steering ≡ l.steering
  pub calls : List Call
  pub events : List Event
  pub stands : StandsAt to_listen b v.session calls events
  pub state : l.state ≡ state_after b stands.rounds
  pub here : is_over l.state.standing.course ≡ false

-- it is there and stands so, or it isn't there
abbrev pub AreLeft : Began → Option ConnectionState → Option Connected → Type 0
AreLeft b (Some v) (Some l) = Lives b v l
AreLeft b None None = Unit {0}
AreLeft b (Some v) None = ⊥
AreLeft b None (Some l) = ⊥

-- A round said exactly this, made exactly these events of the book, which are legal behind those
-- before, and left the connection exactly so.
pub record Turned (b : Began) (o : Outcome) (before after : book.State) (said : List LinkLine)
    (left : Option ConnectionState) : Type 0 where
  pub says : said ≡ o.said
  pub legal : IsLegal before o.events
  pub book_is : after ≡ replay before o.events
  pub leaves : AreLeft b left o.next

-- where a round wants memory, the book has events of its history behind those before
pub record Leaves (before after : book.State) : Type 0 where
  pub events : List Event
  pub legal : IsLegal before events
  pub book_is : after ≡ replay before events

-- ---- what comes and what is ordered

abbrev pub with_steering : ConnectionState → Steering → ConnectionState
with_steering v steering = record v { steering = steering }
