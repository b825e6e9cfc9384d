-- *Session*: which calls its rounds make of the link, what they offer, ask and end with, by the
-- answers of the link and of the book. It speaks of the whole stream that arrived and of the number
-- of messages handled.
use Rattle.std.specs.Prelude.{◌≡◌, ℕ, ◌+◌, ◌-◌, ◌<◌, ◌≤◌, min, Bool, true, false, not, Option, Some}
use Rattle.std.specs.Prelude.{None, is_some, Ok, Err, List, [], ◌∷◌, ◌++◌, length, take}
use Rattle.std.specs.Prelude.{slice_get, slice_index}
use Rattle.octet_core.specs.declared.offer.Offer.{Offer}
use Rattle.isp1_tml.specs.declared.octet_queue.TheConstants.{CAPACITY}
use Rattle.isp1_tml.specs.declared.tml_fault.TmlFault.{TmlFault}
use Rattle.isp1_tml.specs.Message.{Content, spellings}
use Rattle.isp1_tml.specs.Reading.{Reading, reading}
use Rattle.isp1_auth.specs.Numbers.{first_number}
use Rattle.link_model.specs.declared.call.Call.{Call}
use Rattle.link_model.specs.declared.call.Call.TheVariants.{Polled, Offered}
use Rattle.link_model.specs.declared.call.Heard.{Heard}
use Rattle.link_model.specs.declared.call.Heard.TheVariants.{Arrived}
use Rattle.station_config.specs.declared.site.Site.{Site}
use Rattle.assoc_core.specs.declared.state.State.TheVariants.{Opening}
use Rattle.station_book.specs.State.{Answer, Event, answered}
use Rattle.session_core.specs.declared.arrival.Arrival.TheVariants.{Nothing}
use Rattle.session_core.specs.declared.course.Course.{Course}
use Rattle.session_core.specs.declared.course.Course.TheVariants.{Going, Over, LinkFailing}
use Rattle.session_core.specs.declared.course.Course.TheVariants.{LinkFailed}
use Rattle.session_core.specs.declared.spoken.Spoken.{Spoken}
use Rattle.session_core.specs.declared.spoken.Spoken.TheVariants as spoken
use Rattle.session_core.specs.declared.standing.Standing.{Standing}
use Rattle.session_core.specs.Numbers.{longest_piece}
use Rattle.session_core.specs.Course.{is_over}
use Rattle.session_services.specs.Inquiry.{call_of, reply_in}
use Rattle.session_core.specs.Steps.{Next, round_begun, waits, after_wait, may_poll, after_poll}
use Rattle.session_core.specs.Steps.{handles, inquiry_at, after_step, may_speak, after_offer}
use Rattle.session_core.specs.Steps.{may_send, round_ended}
use Rattle.session_services.specs.Served.{unserved}
use Rattle.session_core.specs.ServiceSteps.{after_send}

-- all the octets that arrived, how many messages of them were handled, and how the session stands
pub record State : Type 0 where
  pub came : List ℕ
  pub handled : ℕ
  pub standing : Standing

-- a session at a door begins, with the program's draw, at a moment
abbrev pub begun : ℕ → ℕ → ℕ → Standing
begun door draw entered =
    record {
      association = Opening;
      bound = None;
      course = Going;
      interval = 0;
      factor = 0;
      sent = entered;
      heard = entered;
      moment = entered;
      numbers = first_number draw door;
      block = [];
      arrival = Nothing;
      relieved = false;
      service = unserved;
      outgoing = [];
      dropped = None;
    }

abbrev pub at_first : ℕ → ℕ → ℕ → State
at_first door draw entered =
    record { came = []; handled = 0; standing = begun door draw entered }

-- ---- the stream

abbrev pub next_by : Option TmlFault → Option Content → Next
next_by (Some fault) message = Err fault
next_by None message = Ok message

abbrev pub next_in : Reading → ℕ → Next
next_in r handled = next_by r.fault (slice_get r.messages handled)

-- what comes next of the stream
abbrev pub next_of : State → Next
next_of s = next_in (reading 0 s.came) s.handled

-- the octets of messages that weren't handled yet, and of less than one
abbrev pub held : State → ℕ
held s = length s.came - length (spellings (take s.handled (reading 0 s.came).messages))

-- how many octets a poll asks for: a piece, as far as there is room for one longest message
abbrev pub poll_space : State → ℕ
poll_space s = min (CAPACITY - held s) longest_piece

-- ---- the answers of a round

-- what the book told: the clock's reading with which it was asked, the moment of its answer, and
-- the answer
pub record BookAnswer : Type 0 where
  pub reading : ℕ
  pub moment : ℕ
  pub answer : Answer

-- The answers of a round: of the link to the block that waited, to the poll and to the round's
-- block and to the service's message behind it, where these calls were made; and what the book
-- told, if it was asked.
pub record Round : Type 0 where
  pub waited : Option Offer
  pub heard : Option Heard
  pub told : Option BookAnswer
  pub spoke : Option Offer
  pub sent : Option Offer

-- ---- listen

abbrev pub offer_calls : Standing → Option Offer → List Call
offer_calls s None = []
offer_calls s (Some said) = Offered s.block said ∷ []

abbrev pub poll_calls : ℕ → Option Heard → List Call
poll_calls space None = []
poll_calls space (Some heard) = Polled space heard ∷ []

abbrev pub standing_waited : Standing → Option Offer → Standing
standing_waited s None = s
standing_waited s (Some said) = after_wait s said

abbrev pub standing_heard : Standing → Option Heard → Standing
standing_heard s None = s
standing_heard s (Some heard) = after_poll s heard

abbrev pub came_with : List ℕ → Option Heard → List ℕ
came_with came (Some (Arrived octets)) = came ++ octets
came_with came _ = came

-- how the session stands once the block that waited was offered
abbrev pub cleared : State → Option Offer → Standing
cleared s waited = standing_waited (round_begun s.standing) waited

abbrev pub listened : State → Option Offer → Option Heard → State
listened s waited heard =
    record {
      came = came_with s.came heard;
      handled = s.handled;
      standing = standing_heard (cleared s waited) heard;
    }

-- the calls that listen makes
abbrev pub listen_calls : State → Option Offer → Option Heard → List Call
listen_calls s waited heard = offer_calls s.standing waited ++ poll_calls (poll_space s) heard

abbrev pub AreOctets : List ℕ → Type 0
AreOctets octets = (i : ℕ) → slice_index octets i < 256

-- at least one octet arrives, and no more than were asked for
pub record IsArrival (space : ℕ) (octets : List ℕ) : Type 0 where
  pub some : 0 < length octets
  pub within : length octets ≤ space
  pub each : AreOctets octets

abbrev pub IsHeard : ℕ → Option Heard → Type 0
IsHeard space (Some (Arrived octets)) = IsArrival space octets
IsHeard space _ = Unit {0}

-- listen makes the calls to which these are the answers
pub record Listens (s : State) (waited : Option Offer) (heard : Option Heard) : Type 0 where
  pub offers : is_some waited ≡ waits s.standing
  pub polls : is_some heard ≡ may_poll (cleared s waited) (next_of s)
  pub arrives : IsHeard (poll_space s) heard

-- ---- step

abbrev pub counted : Bool → ℕ → ℕ
counted true n = n + 1
counted false n = n

abbrev pub stepped : Site → State → Option BookAnswer → State
stepped site s None = s
stepped site s (Some told) =
    record {
      came = s.came;
      handled = counted (handles s.standing (next_of s)) s.handled;
      standing = after_step site s.standing (next_of s) told.moment (reply_in told.answer);
    }

-- a session that hasn't ended asks the book once
abbrev pub Asks : State → Option BookAnswer → Type 0
Asks s told = is_some told ≡ not (is_over s.standing.course)

-- the answer event of a door's session
abbrev pub event_of : Site → ℕ → State → BookAnswer → Event
event_of site door s told =
    record {
      call = call_of door told.reading (inquiry_at site s.standing (next_of s) told.moment);
      moment = told.moment;
      reply = answered told.answer;
    }

abbrev pub step_events : Site → ℕ → State → Option BookAnswer → List Event
step_events site door s None = []
step_events site door s (Some told) = event_of site door s told ∷ []

-- ---- speak

abbrev pub standing_spoke : Standing → Option Offer → Standing
standing_spoke s None = s
standing_spoke s (Some said) = after_offer s said

abbrev pub standing_sent : Standing → Option Offer → Standing
standing_sent s None = record s { dropped = None }
standing_sent s (Some said) = after_send s said

abbrev pub send_calls : Standing → Option Offer → List Call
send_calls s None = []
send_calls s (Some said) = Offered s.outgoing said ∷ []

abbrev pub spoken_state : State → Option Offer → Option Offer → State
spoken_state s spoke sent =
    record {
      came = s.came;
      handled = s.handled;
      standing = round_ended (standing_sent (standing_spoke s.standing spoke) sent);
    }

abbrev pub speak_calls : State → Option Offer → Option Offer → List Call
speak_calls s spoke sent =
    offer_calls s.standing spoke ++ send_calls (standing_spoke s.standing spoke) sent

pub record Speaks (s : State) (spoke sent : Option Offer) : Type 0 where
  pub offers : is_some spoke ≡ may_speak s.standing
  pub sends : is_some sent ≡ may_send (standing_spoke s.standing spoke)

-- what a round comes to
abbrev pub spoken_of : Course → Spoken
spoken_of (Over end) = spoken.Ended end
spoken_of LinkFailing = spoken.LinkFault
spoken_of LinkFailed = spoken.LinkFault
spoken_of _ = spoken.Going

abbrev pub is_end : Spoken → Bool
is_end spoken.Going = false
is_end _ = true

abbrev pub is_fault : Spoken → Bool
is_fault spoken.LinkFault = true
is_fault _ = false

-- ---- rounds

abbrev pub before_step : State → Round → State
before_step s r = listened s r.waited r.heard

abbrev pub before_speak : Site → State → Round → State
before_speak site s r = stepped site (before_step s r) r.told

abbrev pub after_round : Site → State → Round → State
after_round site s r = spoken_state (before_speak site s r) r.spoke r.sent

-- these are the answers of a round
pub record IsRound (site : Site) (s : State) (r : Round) : Type 0 where
  pub listens : Listens s r.waited r.heard
  pub asks : Asks (before_step s r) r.told
  pub speaks : Speaks (before_speak site s r) r.spoke r.sent

abbrev pub round_calls : Site → State → Round → List Call
round_calls site s r =
    listen_calls s r.waited r.heard ++ speak_calls (before_speak site s r) r.spoke r.sent

abbrev pub round_events : Site → ℕ → State → Round → List Event
round_events site door s r = step_events site door (before_step s r) r.told

abbrev pub after_rounds : Site → State → List Round → State
after_rounds site s [] = s
after_rounds site s (r ∷ rounds) = after_rounds site (after_round site s r) rounds

abbrev pub AreRounds : Site → State → List Round → Type 0
AreRounds site s [] = Unit {0}
AreRounds site s (r ∷ rounds) = IsRound site s r × AreRounds site (after_round site s r) rounds

-- the calls that the rounds make of the link, with each offer's octets
abbrev pub session_calls : Site → State → List Round → List Call
session_calls site s [] = []
session_calls site s (r ∷ rounds) =
    round_calls site s r ++ session_calls site (after_round site s r) rounds

-- the events that they make of the book, with what each asks and wants
abbrev pub session_events : Site → ℕ → State → List Round → List Event
session_events site door s [] = []
session_events site door s (r ∷ rounds) =
    round_events site door s r ++ session_events site door (after_round site s r) rounds

-- what the last of them comes to
abbrev pub session_end : Site → State → List Round → Spoken
session_end site s rounds = spoken_of (after_rounds site s rounds).standing.course
