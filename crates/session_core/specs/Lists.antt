-- What a session stands for: the calls of its link and the events of its book since it began, over
-- whole lists, within a round too.
use Rattle.std.specs.Prelude.{◌≡◌, ℕ, if◌then◌else◌, List, [], ◌∷◌, ◌++◌, Option}
use Rattle.std.specs.List.{filter_map}
use Rattle.octet_core.specs.declared.offer.Offer.{Offer}
use Rattle.link_model.specs.declared.call.Call.{Call}
use Rattle.link_model.specs.declared.call.Heard.{Heard}
use Rattle.link_model.specs.Calls.{Tells, octets_handed}
use Rattle.link_model.specs.Counts.{CountsWhere}
use Rattle.station_config.specs.declared.site.Site.{Site}
use Rattle.station_book.specs.State.{Event}
use Rattle.station_book.specs.State as book
use Rattle.station_book.specs.History.{IsLegal, replay, reading_of}
use Rattle.session_services.specs.Whole.{AreWhole}
use Rattle.session_core.specs.Session.{State, BookAnswer, at_first, Listens, listened, listen_calls}
use Rattle.session_core.specs.Session.{Asks}
use Rattle.session_core.specs.Session.{stepped, step_events, after_rounds, AreRounds, session_calls}
use Rattle.session_core.specs.Session.{session_events, Round}
use Rattle.session_core.specs.SessionState.{SessionState, Shows, own_events}
use Rattle.session_core.specs.Outcome.{has_ended, has_failed, is_blocked, FailsBy}

-- how far a round has come: the next call is listen, step or speak
pub data Stage : Type 0 where
  to_listen : Stage
  to_step : Stage
  to_speak : Stage

-- the part of a round that was made, by its answers
pub data Part : Type 0 where
  none_made : Part
  made_listen : Option Offer → Option Heard → Part
  made_step : Option Offer → Option Heard → Option BookAnswer → Part

abbrev pub stage_of : Part → Stage
stage_of none_made = to_listen
stage_of (made_listen waited heard) = to_step
stage_of (made_step waited heard told) = to_speak

abbrev pub part_state : Site → State → Part → State
part_state site s none_made = s
part_state site s (made_listen waited heard) = listened s waited heard
part_state site s (made_step waited heard told) = stepped site (listened s waited heard) told

abbrev pub IsPart : State → Part → Type 0
IsPart s none_made = Unit {0}
IsPart s (made_listen waited heard) = Listens s waited heard
IsPart s (made_step waited heard told) =
    Listens s waited heard × Asks (listened s waited heard) told

abbrev pub part_calls : State → Part → List Call
part_calls s none_made = []
part_calls s (made_listen waited heard) = listen_calls s waited heard
part_calls s (made_step waited heard told) = listen_calls s waited heard

abbrev pub part_events : Site → ℕ → State → Part → List Event
part_events site door s none_made = []
part_events site door s (made_listen waited heard) = []
part_events site door s (made_step waited heard told) =
    step_events site door (listened s waited heard) told

-- what a session is: its site, its door, the program's draw, and the moment at which it began
pub record Began : Type 0 where
  pub site : Site
  pub door : ℕ
  pub draw : ℕ
  pub entered : ℕ

abbrev pub start_of : Began → State
start_of b = at_first b.door b.draw b.entered

abbrev pub state_after : Began → List Round → State
state_after b rounds = after_rounds b.site (start_of b) rounds

-- The calls of the link and the events of the book are *Session* of each other, up to this stage of
-- a round, and the session keeps what they leave.
pub record StandsAt (stage : Stage) (b : Began) (v : SessionState) (calls : List Call)
    (events : List Event) : Type 0 where
  pub rounds : List Round
  pub part : Part
  pub stage_is : stage_of part ≡ stage
  pub door_is : v.door ≡ b.door
  pub right : AreRounds b.site (start_of b) rounds
  pub part_right : IsPart (state_after b rounds) part
  pub calls_are : calls ≡ session_calls b.site (start_of b) rounds
      ++ part_calls (state_after b rounds) part
  pub events_are : events ≡ session_events b.site b.door (start_of b) rounds
      ++ part_events b.site b.door (state_after b rounds) part
  pub shows : Shows v (part_state b.site (state_after b rounds) part)

-- A call of a session made these calls of a link that told `before` and tells `after`. For all
-- lists for which the session stood, it stands for these with the call's own behind them. What the
-- call handed over is whole messages.
pub record Goes (from to : Stage) (before after : Option (List Call))
    (old new : SessionState) : Type 0 where
  pub own : List Call
  pub told : Tells before after own
  pub whole : AreWhole (octets_handed own)
  pub stands : (b : Began) (calls : List Call) (events : List Event)
      → StandsAt from b old calls events → StandsAt to b new (calls ++ own) events

-- A step at a reading made at most one event of a book, which is its own of what the session kept
-- and of the book. For all lists for which the session stood, it stands for these with that event.
pub record GoesStep (site : Site) (reading : ℕ) (book_before book_after : book.State)
    (old new : SessionState) : Type 0 where
  pub book_is : book_after ≡ replay book_before (own_events site old book_before reading)
  pub failed : has_failed new ≡ has_failed old
  pub blocked : is_blocked new ≡ is_blocked old
  pub stands : (b : Began) (calls : List Call) (events : List Event) → b.site ≡ site
      → StandsAt to_step b old calls events
      → StandsAt to_speak b new calls (events ++ own_events site old book_before reading)

-- A call ran out of memory after a listen, whose calls of the link are all that it made. The link's
-- count of faults rose exactly where the link failed in the listen, its count of stalls exactly where
-- the block that waited stalled in it.
pub record OnlyListens (before after : Option (List Call)) (faults faults_now : ℕ)
    (stalls stalls_now : ℕ) (old : SessionState) : Type 0 where
  pub heard : SessionState
  pub goes : Goes to_listen to_step before after old heard
  pub fails : FailsBy (has_failed old) (has_failed heard) faults faults_now
  pub stalled : CountsWhere (is_blocked heard) stalls stalls_now

-- the readings of the clock at which the book was called
abbrev pub readings_in : List Event → List ℕ
readings_in events = filter_map (λ e. reading_of e.call) events

-- A round at a reading made these calls of a link and these events of a book, one unless the
-- session had ended, and the session stands for them behind all for which it stood. What the round
-- handed over is whole messages.
pub record GoesRound (site : Site) (reading : ℕ) (before after : Option (List Call)) (book_before
    book_after : book.State) (old new : SessionState) : Type 0 where
  pub own : List Call
  pub told : Tells before after own
  pub whole : AreWhole (octets_handed own)
  pub gained : List Event
  pub reads : readings_in gained ≡ (if has_ended old then [] else reading ∷ [])
  pub legal : IsLegal book_before gained
  pub book_is : book_after ≡ replay book_before gained
  pub stands : (b : Began) (calls : List Call) (events : List Event) → b.site ≡ site
      → StandsAt to_listen b old calls events
      → StandsAt to_listen b new (calls ++ own) (events ++ gained)
