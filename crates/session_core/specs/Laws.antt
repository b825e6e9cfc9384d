-- What holds of every session.
use Rattle.std.specs.Prelude.{◌≡◌, ℕ, ◌≤◌, Bool, true, false, not, ◌&&◌, if◌then◌else◌, Option}
use Rattle.std.specs.Prelude.{◌⊎◌, is_some, Some, None, Ok, List, [], ◌∷◌, ◌++◌, length}
use Rattle.std.specs.List.{list_any}
use Rattle.octet_core.specs.declared.offer.Offer.{Offer}
use Rattle.octet_core.specs.declared.offer.Offer.TheVariants.{Whole, Stalled, Failed as Refused}
use Rattle.isp1_tml.specs.declared.tml_fault.TmlFault.{TmlFault}
use Rattle.isp1_tml.specs.Message.{Content}
use Rattle.isp1_tml.specs.Stream.{IsStream}
use Rattle.link_model.specs.declared.call.Call.{Call}
use Rattle.link_model.specs.declared.call.Call.TheVariants.{Polled, Offered}
use Rattle.link_model.specs.declared.call.Heard.{Heard}
use Rattle.link_model.specs.declared.call.Heard.TheVariants.{Failed}
use Rattle.link_model.specs.Calls.{octets_heard, blocks_in}
use Rattle.station_config.specs.declared.site.Site.{Site}
use Rattle.station_book.specs.State.{Event}
use Rattle.station_book.specs.State as book
use Rattle.session_core.specs.declared.spoken.Spoken.TheVariants.{Going}
use Rattle.session_core.specs.declared.standing.Standing.{Standing}
use Rattle.session_core.specs.Course.{is_live, is_over, is_blocked}
use Rattle.session_core.specs.ServiceSteps.{has_outgoing, Stays, with_service}
use Rattle.session_core.specs.Steps.{Next, has_block, handles, unasked}
use Rattle.session_services.specs.Inquiry.{Replied}
use Rattle.session_services.specs.Whole.{AreWhole}
use Rattle.archive_terms.specs.Glimpse.{Glimpse}
use Rattle.session_core.specs.Session.{State, Round, BookAnswer, at_first, next_of, before_step}
use Rattle.session_core.specs.Session.{before_speak, IsRound, round_calls, round_events}
use Rattle.session_core.specs.Session.{after_round, after_rounds, AreRounds, session_calls}
use Rattle.session_core.specs.Session.{listen_calls, offer_calls}
use Rattle.session_core.specs.Session.{session_events, session_end, spoken_of, is_fault}
use Rattle.session_core.specs.SessionState.{SessionState}
use Rattle.session_core.specs.Outcome.{come_to}
use Rattle.session_core.specs.Lists.{Began, start_of, state_after, StandsAt, to_listen, GoesRound}

-- ---- messages

abbrev pub message_in : Next → List Content
message_in (Ok (Some message)) = message ∷ []
message_in _ = []

abbrev pub messages_by : Bool → Next → List Content
messages_by true next = message_in next
messages_by false next = []

-- the message that a round handles, if it handles one
abbrev pub round_messages : State → Round → List Content
round_messages s r =
    let t = before_step s r in messages_by (handles t.standing (next_of t)) (next_of t)

abbrev pub session_messages : Site → State → List Round → List Content
session_messages site s [] = []
session_messages site s (r ∷ rounds) =
    round_messages s r ++ session_messages site (after_round site s r) rounds

-- these are the first messages of the stream
pub record AreFirst (messages : List Content) (octets : List ℕ) : Type 0 where
  pub more : List Content
  pub rest : List ℕ
  pub fault : Option TmlFault
  pub stream : IsStream 0 octets (messages ++ more) rest fault

-- However the octets were cut, the messages handled are the stream's, in order and each once, from
-- the first one on.
abbrev pub HandledInOrder : Type 0
HandledInOrder =
    (site : Site) (door draw entered : ℕ) (rounds : List Round)
    → AreRounds site (at_first door draw entered) rounds
    → AreFirst (session_messages site (at_first door draw entered) rounds)
    (octets_heard (session_calls site (at_first door draw entered) rounds))

-- ---- blocks

-- the block that waits, if one does
abbrev pub waiting : Standing → List (List ℕ)
waiting s = if has_block s then s.block ∷ [] else []

-- the block that a round makes, if it makes one: one that is blocked makes none
abbrev pub round_blocks : Site → State → Round → List (List ℕ)
round_blocks site s r =
    let t = before_step s r in
    if is_live t.standing.course && not (is_blocked t.standing.arrival)
    then waiting (before_speak site s r).standing
    else []

abbrev pub session_blocks : Site → State → List Round → List (List ℕ)
session_blocks site s [] = []
session_blocks site s (r ∷ rounds) =
    round_blocks site s r ++ session_blocks site (after_round site s r) rounds

-- the calls of the link with blocks: what a service sends behind them is its own
abbrev pub block_calls : Site → State → Round → List Call
block_calls site s r =
    listen_calls s r.waited r.heard ++ offer_calls (before_speak site s r).standing r.spoke

abbrev pub session_block_calls : Site → State → List Round → List Call
session_block_calls site s [] = []
session_block_calls site s (r ∷ rounds) =
    block_calls site s r ++ session_block_calls site (after_round site s r) rounds

-- The blocks that were made are those that the link was handed, in order and each once, and at most
-- one that wasn't: while the session lives, the one that waits.
pub record AreHandedOnce (made handed : List (List ℕ)) (now : Standing) : Type 0 where
  pub left : List (List ℕ)
  pub few : length left ≤ 1
  pub blocks : made ≡ handed ++ left
  pub waits : is_live now.course ≡ true → left ≡ waiting now

abbrev pub EachBlockOnce : Type 0
EachBlockOnce =
    (site : Site) (door draw entered : ℕ) (rounds : List Round)
    → AreRounds site (at_first door draw entered) rounds
    → AreHandedOnce (session_blocks site (at_first door draw entered) rounds)
    (blocks_in (session_block_calls site (at_first door draw entered) rounds))
    (after_rounds site (at_first door draw entered) rounds).standing

-- ---- whole messages

-- Whole messages are a stream of just these.
abbrev pub WholeIsStream : Type 0
WholeIsStream =
    (place : ℕ) (octets : List ℕ) (whole : AreWhole octets)
    → IsStream place octets whole.messages [] None

-- ---- a service's part of a step

-- It leaves whether the session goes on, what listen came to, the moment, and the association.
abbrev pub ServiceLeaves : Type 0
ServiceLeaves =
    (site : Site) (was : Bool) (g : Glimpse) (r : Replied) (s : Standing)
    → Stays s (with_service site was g (unasked site r s))

-- ---- a service's message

-- Behind a round its service's message is gone, handed over or dropped; or it is kept as it was
-- offered, where it stalled or nothing was offered.
pub record IsGoneOrKept (site : Site) (s : State) (r : Round) : Type 0 where
  pub whole : r.sent ≡ Some Whole → (after_round site s r).standing.outgoing ≡ []
  pub stalled : r.sent ≡ Some Stalled
      → (after_round site s r).standing.outgoing
      ≡ (if is_some (after_round site s r).standing.dropped then []
      else (before_speak site s r).standing.outgoing)
  pub unsent : r.sent ≡ None
      → (after_round site s r).standing.outgoing ≡ (before_speak site s r).standing.outgoing

-- One that is kept is offered again unchanged or not at all: it is gone with a STOP, and with the
-- session's end.
abbrev pub StaysOrGoes : Site → State → Round → Type 0
StaysOrGoes site s r =
    ((before_speak site s r).standing.outgoing ≡ s.standing.outgoing)
    ⊎ ((before_speak site s r).standing.outgoing ≡ [])

-- A service's message that was taken whole is offered no more, and one that stalled is offered no
-- more unless its service keeps it, and then unchanged.
pub record MessagesAreOnce : Type 0 where
  pub each : (site : Site) (s : State) (r : Round) → IsGoneOrKept site s r
  pub again : (site : Site) (s : State) (r : Round) → has_outgoing s.standing ≡ true
      → StaysOrGoes site s r

-- ---- ends

-- these rounds call neither link nor book, and come to the same end
pub record RepeatEnd (site : Site) (door : ℕ) (s : State) (rounds : List Round) : Type 0 where
  pub calls : session_calls site s rounds ≡ []
  pub events : session_events site door s rounds ≡ []
  pub same : session_end site s rounds ≡ spoken_of s.standing.course

-- After an end, one by a fault of the link too, nothing is polled, offered or asked, and the end
-- repeats itself.
abbrev pub EndsRepeat : Type 0
EndsRepeat =
    (site : Site) (door : ℕ) (s : State) (rounds : List Round) → is_over s.standing.course ≡ true
    → AreRounds site s rounds → RepeatEnd site door s rounds

-- ---- faults

-- whether a call was answered Failed
abbrev pub was_refused : Call → Bool
was_refused (Polled space Failed) = true
was_refused (Polled space _) = false
was_refused (Offered octets Refused) = true
was_refused (Offered octets _) = false

-- no call stands behind one that was answered Failed
abbrev pub FailsLast : List Call → Type 0
FailsLast [] = Unit {0}
FailsLast (call ∷ calls) = (was_refused call ≡ true → calls ≡ []) × FailsLast calls

-- After a poll or an offer failed, the link isn't called again, by this round or a later one.
abbrev pub FaultsAreLast : Type 0
FaultsAreLast =
    (site : Site) (door draw entered : ℕ) (rounds : List Round)
    → AreRounds site (at_first door draw entered) rounds
    → FailsLast (session_calls site (at_first door draw entered) rounds)

-- A session tells a fault of its link exactly where a call that it made was answered Failed.
abbrev pub FaultsAreOfCalls : Type 0
FaultsAreOfCalls =
    (site : Site) (door draw entered : ℕ) (rounds : List Round)
    → is_fault (session_end site (at_first door draw entered) rounds)
    ≡ list_any was_refused (session_calls site (at_first door draw entered) rounds)

-- What a session has come to between two rounds is the end of the rounds for which it stands.
abbrev pub EndsAsItStands : Type 0
EndsAsItStands =
    (b : Began) (v : SessionState) (calls : List Call) (events : List Event)
    (h : StandsAt to_listen b v calls events)
    → come_to v ≡ session_end b.site (start_of b) h.rounds

-- ---- one session

-- what a link answers
pub data LinkAnswer : Type 0 where
  to_poll : Heard → LinkAnswer
  to_offer : Offer → LinkAnswer

abbrev pub offer_answers : Option Offer → List LinkAnswer
offer_answers None = []
offer_answers (Some answer) = to_offer answer ∷ []

abbrev pub poll_answers : Option Heard → List LinkAnswer
poll_answers None = []
poll_answers (Some heard) = to_poll heard ∷ []

-- the answers of the link in rounds, in order
abbrev pub session_answers : List Round → List LinkAnswer
session_answers [] = []
session_answers (r ∷ rounds) =
    offer_answers r.waited
    ++ (poll_answers r.heard
    ++ (offer_answers r.spoke ++ (offer_answers r.sent ++ session_answers rounds)))

-- two lists of rounds in which the session does the same
pub record DoSame (site : Site) (s : State) (rounds others : List Round) : Type 0 where
  pub calls : session_calls site s rounds ≡ session_calls site s others
  pub end : session_end site s rounds ≡ session_end site s others

-- The answers of the link and the book's answer events fix what a session does: each call with its
-- octets, and the end.
abbrev pub OneSession : Type 0
OneSession =
    (site : Site) (door : ℕ) (s : State) (rounds others : List Round) → AreRounds site s rounds
    → AreRounds site s others → session_answers rounds ≡ session_answers others
    → session_events site door s rounds ≡ session_events site door s others
    → DoSame site s rounds others

-- ---- one round more

-- A session between two rounds that asked nothing of the book has made no round.
abbrev pub NoRoundYet : Type 0
NoRoundYet =
    (b : Began) (v : SessionState) (calls : List Call) (h : StandsAt to_listen b v calls [])
    → h.rounds ≡ []

-- Behind these rounds, these calls of the link and events of the book are those of one round more,
-- which asked the book at this reading. The session has come to what that round came to, and where
-- it goes on it stands as behind that round.
pub record OneMore (b : Began) (reading : ℕ) (rounds now : List Round) (calls : List Call)
    (events : List Event) (new : SessionState) : Type 0 where
  pub round : Round
  pub right : IsRound b.site (state_after b rounds) round
  pub told : BookAnswer
  pub asked : round.told ≡ Some told
  pub reads : told.reading ≡ reading
  pub calls_are : calls ≡ round_calls b.site (state_after b rounds) round
  pub events_are : events ≡ round_events b.site b.door (state_after b rounds) round
  pub come : come_to new
      ≡ spoken_of (after_round b.site (state_after b rounds) round).standing.course
  pub state : come_to new ≡ Going
      → state_after b now ≡ after_round b.site (state_after b rounds) round
  pub stands : come_to new ≡ Going
      → new.standing ≡ (after_round b.site (state_after b rounds) round).standing

-- A round of a session that hasn't ended makes the calls and events of one round of *Session*,
-- behind those for which the session stood.
abbrev pub OneRoundMore : Type 0
OneRoundMore =
    (b : Began) (site : Site) (reading : ℕ) (before after : Option (List Call))
    (was is : book.State) (v new : SessionState) (calls : List Call) (events : List Event)
    (same : b.site ≡ site) (goes : GoesRound site reading before after was is v new)
    (h : StandsAt to_listen b v calls events)
    → is_over (state_after b h.rounds).standing.course ≡ false
    → OneMore b reading h.rounds (goes.stands b calls events same h).rounds goes.own goes.gained
    new
