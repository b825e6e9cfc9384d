-- What a session keeps, as contracts see it, and which states it shows.
use Rattle.std.specs.Prelude.{◌≡◌, ℕ, min, true, if◌then◌else◌, Option, Some, None, is_some, List}
use Rattle.std.specs.Prelude.{[], ◌∷◌, length}
use Rattle.octet_core.specs.declared.offer.Offer.{Offer}
use Rattle.isp1_tml.specs.Message.{Content}
use Rattle.isp1_tml.specs.Reading.{reading}
use Rattle.isp1_tml.specs.Feeding.{Feeding, StandsFor, room_of}
use Rattle.isp1_tml.specs.Feeding.{next_of as next_held, after_next as after_given}
use Rattle.link_model.specs.declared.call.Call.{Call}
use Rattle.link_model.specs.declared.call.Heard.{Heard}
use Rattle.link_model.specs.Calls.{Tells, octets_handed}
use Rattle.station_config.specs.declared.site.Site.{Site}
use Rattle.station_book.specs.State.{Event}
use Rattle.station_book.specs.State as book
use Rattle.station_book.specs.History.{moment_at, event_at, after}
use Rattle.session_core.specs.declared.standing.Standing.{Standing}
use Rattle.session_core.specs.Course.{is_going, is_over}
use Rattle.session_services.specs.Inquiry.{Inquiry, call_of, answer_of, Replied, reply_in}
use Rattle.session_core.specs.Numbers.{longest_piece}
use Rattle.session_services.specs.Whole.{AreWhole}
use Rattle.session_core.specs.Steps.{round_begun, waits, may_poll, is_idle, inquiry_at, after_step}
use Rattle.session_core.specs.Steps.{may_speak, may_send}
use Rattle.session_core.specs.Session.{State, BookAnswer, IsHeard, Listens, Speaks, offer_calls}
use Rattle.session_core.specs.Session.{poll_calls}
use Rattle.session_core.specs.Session.{listen_calls, speak_calls, standing_waited, standing_heard}
use Rattle.session_core.specs.Session.{standing_spoke, standing_sent, send_calls, came_with}
use Rattle.session_core.specs.Session.{listened, spoken_state}

-- the number of its door, what its feeder holds, and how it stands
pub record SessionState : Type 0 where
  pub door : ℕ
  pub feeder : Feeding
  pub standing : Standing

-- The session has come to this state: of these octets it was given so many messages.
pub record Shows (v : SessionState) (s : State) : Type 0 where
  pub standing : v.standing ≡ s.standing
  pub given : List Content
  pub count : length given ≡ s.handled
  pub stands : StandsFor v.feeder s.came given

-- where a round begins and the session goes on, its stream has no fault
abbrev pub IsSound : State → Type 0
IsSound s = is_going s.standing.course ≡ true → (reading 0 s.came).fault ≡ None

-- ---- listen, from a link that told `before` to one that tells `after`

-- the space of a poll
abbrev pub space_of : Feeding → ℕ
space_of f = min (room_of f) longest_piece

-- the block that waited was offered, if there was one
pub record Waited (before after : Option (List Call)) (old new : SessionState) : Type 0 where
  pub waited : Option Offer
  pub told : Tells before after (offer_calls old.standing waited)
  pub offers : is_some waited ≡ waits old.standing
  pub new_is : new ≡ record old { standing = standing_waited (round_begun old.standing) waited }

-- the link was polled, if it may be
pub record PolledOnce (before after : Option (List Call)) (old new : SessionState) : Type 0 where
  pub heard : Option Heard
  pub told : Tells before after (poll_calls (space_of old.feeder) heard)
  pub polls : is_some heard ≡ may_poll old.standing (next_held old.feeder)
  pub arrives : IsHeard (space_of old.feeder) heard
  pub door : new.door ≡ old.door
  pub standing : new.standing ≡ standing_heard old.standing heard
  pub feeder : (came : List ℕ) (given : List Content) → StandsFor old.feeder came given
      → StandsFor new.feeder (came_with came heard) given

-- the link was polled, with what that makes of feeder and standing
pub record Hears (before after : Option (List Call)) (f g : Feeding) (s t : Standing) : Type 0 where
  pub heard : Heard
  pub told : Tells before after (poll_calls (space_of f) (Some heard))
  pub arrives : IsHeard (space_of f) (Some heard)
  pub standing : t ≡ standing_heard s (Some heard)
  pub feeder : (came : List ℕ) (given : List Content) → StandsFor f came given
      → StandsFor g (came_with came (Some heard)) given

-- listen's own calls, and for each state that the session showed, what they are
pub record Listened (before after : Option (List Call)) (old new : SessionState) : Type 0 where
  pub waited : Option Offer
  pub heard : Option Heard
  pub own : List Call
  pub told : Tells before after own
  pub whole : AreWhole old.standing.block → AreWhole (octets_handed own)
  pub door : new.door ≡ old.door
  pub own_is : (s : State) → Shows old s → IsSound s → own ≡ listen_calls s waited heard
  pub listens : (s : State) → Shows old s → IsSound s → Listens s waited heard
  pub stands : (s : State) → Shows old s → Shows new (listened s waited heard)

-- ---- step

-- what it asks of a book at a reading, and wants of a look
abbrev pub asked : Site → SessionState → book.State → ℕ → Inquiry
asked site v b reading = inquiry_at site v.standing (next_held v.feeder) (moment_at b reading)

-- what the book tells it
abbrev pub told_now : Site → SessionState → book.State → ℕ → BookAnswer
told_now site v b reading =
    record {
      reading = reading;
      moment = moment_at b reading;
      answer = answer_of b v.door (moment_at b reading) (asked site v b reading);
    }

abbrev pub told_by : Site → SessionState → book.State → ℕ → Option BookAnswer
told_by site v b reading =
    if is_over v.standing.course then None else Some (told_now site v b reading)

-- its answer event, unless it has ended
abbrev pub own_events : Site → SessionState → book.State → ℕ → List Event
own_events site v b reading =
    if is_over v.standing.course then []
    else event_at b (call_of v.door reading (asked site v b reading)) ∷ []

-- At a reading the session of a door asked a book this, was told this, and stands so by it.
pub record Acts (door reading : ℕ) (book_before book_after : book.State) (old new : Standing)
    (ask : Inquiry) (led : Replied → Standing) (told : Replied) : Type 0 where
  pub book : book_after ≡ after book_before (call_of door reading ask)
  pub standing : new ≡ led (reply_in (answer_of book_before door old.moment ask))
  pub told_is : told ≡ reply_in (answer_of book_before door old.moment ask)

-- a message is given, unless the round is idle
abbrev pub feeder_after : Standing → Feeding → Feeding
feeder_after s f = if is_idle s then f else after_given f

-- what it keeps after its step
abbrev pub kept_after : Site → SessionState → Option BookAnswer → SessionState
kept_after site v None = v
kept_after site v (Some told) =
    record v {
      feeder = feeder_after v.standing v.feeder;
      standing =
          after_step site v.standing (next_held v.feeder) told.moment (reply_in told.answer);
    }

-- ---- speak

-- the block was offered, if it may be
pub record IsSpoken (before after : Option (List Call)) (old new : SessionState) : Type 0 where
  pub spoke : Option Offer
  pub told : Tells before after (offer_calls old.standing spoke)
  pub offers : is_some spoke ≡ may_speak old.standing
  pub new_is : new ≡ record old { standing = standing_spoke old.standing spoke }

-- behind it the service's message was offered, if it may be
pub record IsSent (before after : Option (List Call)) (old new : SessionState) : Type 0 where
  pub sent : Option Offer
  pub told : Tells before after (send_calls old.standing sent)
  pub sends : is_some sent ≡ may_send old.standing
  pub new_is : new ≡ record old { standing = standing_sent old.standing sent }

-- speak's own calls, and for each state that the session showed, what they are
pub record Spoke (before after : Option (List Call)) (old new : SessionState) : Type 0 where
  pub spoke : Option Offer
  pub sent : Option Offer
  pub own : List Call
  pub told : Tells before after own
  pub whole : AreWhole old.standing.block → AreWhole old.standing.outgoing
      → AreWhole (octets_handed own)
  pub door : new.door ≡ old.door
  pub own_is : (s : State) → Shows old s → own ≡ speak_calls s spoke sent
  pub speaks : (s : State) → Shows old s → Speaks s spoke sent
  pub stands : (s : State) → Shows old s → Shows new (spoken_state s spoke sent)
