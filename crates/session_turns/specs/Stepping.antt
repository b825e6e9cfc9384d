-- A session's step in a turn of the station's lock. This product's own.
use Rattle.std.specs.Prelude.{◌≡◌, ℕ, List, [], ◌∷◌, ◌++◌}
use Rattle.link_model.specs.declared.call.Call.{Call as LinkCall}
use Rattle.turn_lock.specs.PassState.{PassState, Lock}
use Rattle.station_config.specs.declared.site.Site.{Site}
use Rattle.station_book.specs.State.{Opening, opened, Call, Event}
use Rattle.station_book.specs.State as book
use Rattle.station_book.specs.History.{event_at, replay}
use Rattle.station_turns.specs.Turned.{called, Makes}
use Rattle.session_services.specs.Inquiry.{call_of}
use Rattle.session_core.specs.SessionState.{SessionState, asked}
use Rattle.session_core.specs.Outcome.{has_failed}
use Rattle.session_core.specs.Lists.{Began, StandsAt, to_step, to_speak}

-- the call of a session's step at a reading, by what a book is then, and its event
abbrev pub call_now : Site → SessionState → book.State → ℕ → Call
call_now site v b reading = call_of v.door reading (asked site v b reading)

abbrev pub event_now : Site → SessionState → book.State → ℕ → Event
event_now site v b reading = event_at b (call_now site v b reading)

-- A step with this event: for all lists for which the session stood, it stands for these with it.
pub record StepsBy (site : Site) (event : Event) (v w : SessionState) : Type 0 where
  pub failed : has_failed w ≡ has_failed v
  pub stands : (b : Began) (calls : List LinkCall) (events : List Event) → b.site ≡ site
      → StandsAt to_step b v calls events → StandsAt to_speak b w calls (events ++ event ∷ [])

-- A pass made a session's step in a turn: it asked what the session asks of the book that one thread
-- has there, and the session stands for what it stood for and that event.
pub record StepsOnce (lock : Lock Opening) (site : Site) (reading : ℕ) (v w : SessionState)
    (old new : PassState Event Opening) : Type 0 where
  pub call : Call
  pub makes : Makes lock call old new
  pub call_is : call ≡ call_now site v (replay (opened lock.origin) makes.before) reading
  pub steps : StepsBy site (called lock.origin makes.before call) v w
