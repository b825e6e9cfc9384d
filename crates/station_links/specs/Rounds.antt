-- A round of a connection of a script, at a reading of the clock, on a book: the steering of its
-- link fixes what each poll hears and how each offer is answered, and the book what it replies. All
-- else is *Session*'s.
use Rattle.std.specs.Prelude.{ℕ, Bool, true, false, if◌then◌else◌, Option, Some, None, List, []}
use Rattle.std.specs.Prelude.{◌∷◌, ◌++◌}
use Rattle.octet_core.specs.declared.offer.Offer.{Offer}
use Rattle.link_model.specs.declared.call.Heard.{Heard}
use Rattle.link_model.specs.Steering.{Steering, heard_by, answer_to_offer}
use Rattle.station_config.specs.declared.site.Site.{Site}
use Rattle.station_book.specs.State.{Event, quit}
use Rattle.station_book.specs.State as book
use Rattle.station_book.specs.History.{moment_at, event_at, replay}
use Rattle.drill_text.specs.declared.end_word.EndWord.{EndWord}
use Rattle.session_core.specs.Course.{is_over}
use Rattle.session_services.specs.Inquiry.{answer_of}
use Rattle.session_core.specs.Steps.{waits, may_poll, may_speak, may_send, inquiry_at}
use Rattle.session_core.specs.Session.{State, BookAnswer, Round, next_of, poll_space, cleared}
use Rattle.session_core.specs.Session.{listened, standing_spoke}
use Rattle.session_core.specs.Session.{offer_calls, listen_calls, stepped, after_round, round_calls}
use Rattle.session_core.specs.Session.{round_events, spoken_of}
use Rattle.station_links.specs.declared.link_line.LinkLine.{LinkLine}
use Rattle.station_links.specs.LinkLines.{lines_in, end_of, drop_lines, end_lines}
use Rattle.station_links.specs.Connected.{Connected, after_calls}

-- ---- the answers

-- to an offer and to a poll, where they are made
abbrev pub offer_answer : Steering → Bool → Option Offer
offer_answer s true = Some (answer_to_offer s)
offer_answer s false = None

abbrev pub poll_answer : Steering → ℕ → Bool → Option Heard
poll_answer s space true = Some (heard_by s space)
poll_answer s space false = None

-- to the block that waited, and to the poll behind it
abbrev pub waited_at : Connected → Option Offer
waited_at l = offer_answer l.steering (waits l.state.standing)

abbrev pub heard_at : Connected → Option Heard
heard_at l =
    poll_answer (after_calls l.steering (offer_calls l.state.standing (waited_at l)))
    (poll_space l.state) (may_poll (cleared l.state (waited_at l)) (next_of l.state))

abbrev pub listened_at : Connected → State
listened_at l = listened l.state (waited_at l) (heard_at l)

-- what a book tells a session that hasn't ended
abbrev pub told_now : Site → ℕ → State → book.State → ℕ → BookAnswer
told_now site door s b reading =
    record {
      reading = reading;
      moment = moment_at b reading;
      answer =
          answer_of b door (moment_at b reading)
          (inquiry_at site s.standing (next_of s) (moment_at b reading));
    }

abbrev pub told_at : Site → ℕ → Connected → book.State → ℕ → Option BookAnswer
told_at site door l b reading =
    if is_over (listened_at l).standing.course then None
    else Some (told_now site door (listened_at l) b reading)

-- to the round's block
abbrev pub spoke_at : Connected → State → Option Offer
spoke_at l s =
    offer_answer (after_calls l.steering (listen_calls l.state (waited_at l) (heard_at l)))
    (may_speak s.standing)

-- to the service's message behind it
abbrev pub sent_at : Connected → State → Option Offer
sent_at l s =
    offer_answer
    (after_calls (after_calls l.steering (listen_calls l.state (waited_at l) (heard_at l)))
    (offer_calls s.standing (spoke_at l s)))
    (may_send (standing_spoke s.standing (spoke_at l s)))

-- the answers of a round
abbrev pub round_at : Site → ℕ → Connected → book.State → ℕ → Round
round_at site door l b reading =
    record {
      waited = waited_at l;
      heard = heard_at l;
      told = told_at site door l b reading;
      spoke = spoke_at l (stepped site (listened_at l) (told_at site door l b reading));
      sent = sent_at l (stepped site (listened_at l) (told_at site door l b reading));
    }

-- ---- what comes of it

-- What a round says in the transcript, its events of the book, and how the connection stands behind
-- it, if it is there still.
pub record Outcome : Type 0 where
  pub said : List LinkLine
  pub events : List Event
  pub next : Option Connected

-- a connection that ended quits its door
abbrev pub quits : ℕ → book.State → Option EndWord → List Event
quits door b None = []
quits door b (Some why) = event_at b (quit door) ∷ []

-- it isn't there any more
abbrev pub left_by : {A : Type 0} → Option EndWord → A → Option A
left_by None l = Some l
left_by (Some why) l = None

-- how a connection stands behind a round with these answers, whether or not it ended
abbrev pub stands_after : Site → Connected → Round → Connected
stands_after site l r =
    record {
      steering = after_calls l.steering (round_calls site l.state r);
      state = after_round site l.state r;
    }

abbrev pub end_after : Site → Connected → Round → Option EndWord
end_after site l r = end_of (spoken_of (after_round site l.state r).standing.course)

-- what a round with these answers says, but for how the connection ended
abbrev pub round_lines : Site → State → Round → List LinkLine
round_lines site s r =
    let now = (after_round site s r).standing in
    lines_in (round_calls site s r) ++ drop_lines (end_of (spoken_of now.course)) now.dropped

abbrev pub session_lines : Site → State → List Round → List LinkLine
session_lines site s [] = []
session_lines site s (r ∷ rounds) =
    round_lines site s r ++ session_lines site (after_round site s r) rounds

abbrev pub outcome_of : Site → ℕ → Connected → book.State → Round → Outcome
outcome_of site door l b r =
    let end = end_after site l r in
    let events = round_events site door l.state r in
    record {
      said = round_lines site l.state r ++ end_lines end;
      events = events ++ quits door (replay b events) end;
      next = left_by end (stands_after site l r);
    }

-- a round of a connection, at a reading, on a book
abbrev pub round_of : Site → ℕ → Connected → book.State → ℕ → Outcome
round_of site door l b reading =
    outcome_of site door l b (round_at site door l b reading)
