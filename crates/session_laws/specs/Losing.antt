-- No reply of the book to a session is Lost: what a session asks fits what its door has bound.
use Rattle.std.specs.Prelude.{◌≡◌, ℕ, Bool, true, false, None, List, ◌++◌}
use Rattle.std.specs.Prelude.{length, IsFalse}
use Rattle.std.specs.List.{filter, list_any}
use Rattle.archive_terms.specs.Archive.{Entry}
use Rattle.sle_numbers.specs.declared.peer_abort_diagnostic.PeerAbortDiagnostic.TheVariants.{OtherReason}
use Rattle.station_config.specs.declared.site.Site.{Site}
use Rattle.station_book.specs.Origin.{kinds_of, opening_of}
use Rattle.station_book.specs.State.{State as Book, opened, Event, Reply, answered}
use Rattle.station_book.specs.History.{IsLegal, replay, instance_of, has_forward}
use Rattle.station_book.specs.Doors.{is_by, HasOneForward}
use Rattle.session_core.specs.declared.ended.Ended.TheVariants.{Aborted}
use Rattle.session_core.specs.declared.spoken.Spoken.TheVariants.{Ended}
use Rattle.session_core.specs.Handling.{is_lost}
use Rattle.session_core.specs.Session.{Round, AreRounds, session_events, session_end}
use Rattle.session_core.specs.Lists.{Began, start_of}

-- the events of a door
abbrev pub own_in : ℕ → List Event → List Event
own_in door h = filter (λ e. is_by door e.call) h

-- whether an event's reply is Lost
abbrev pub loses : Reply → Bool
loses (answered a) = is_lost a.reply
loses _ = false

-- some door has the forward service's instance
pub record RunsAtDoor (book : Book) : Type 0 where
  pub door : ℕ
  pub has : has_forward book door ≡ true

-- a run is started only where some door has the forward service's instance
abbrev pub RunHasDoor : Book → Type 0
RunHasDoor book = book.queue.started ≡ true → RunsAtDoor book

-- a book of a site in which a door has no instance, and in which no run is left without a door
pub record IsFree (site : Site) (door : ℕ) (book : Book) : Type 0 where
  pub services : book.opening.services ≡ kinds_of site.instances
  pub places : length book.doors ≡ length book.opening.services
  pub runs : RunHasDoor book
  pub free : instance_of book door ≡ None

-- these rounds lose nothing, and don't end as a lost reply would end them
pub record LosesNothing (b : Began) (rounds : List Round) : Type 0 where
  pub replies : IsFalse
      (list_any (λ e. loses e.reply) (session_events b.site b.door (start_of b) rounds))
  pub ends : session_end b.site (start_of b) rounds ≡ Ended (Aborted OtherReason) → ⊥

-- In a legal history whose events at a door begin with those of a session's rounds, from where the
-- door has no instance on, nothing that the session asks is lost, where at most one
-- instance of the site is the forward service's. What other doors ask, what workers
-- do, and what comes at the door behind these rounds is free.
abbrev pub NothingIsLost : Type 0
NothingIsLost =
    (b : Began) (book : Book) (h last : List Event) (rounds : List Round)
    → HasOneForward (kinds_of b.site.instances) → IsFree b.site b.door book → IsLegal book h → AreRounds b.site (start_of b) rounds
    → own_in b.door h ≡ session_events b.site b.door (start_of b) rounds ++ last
    → LosesNothing b rounds

-- No door has an instance of a new book, nor after events of which none is the door's; and a run is
-- started only where some door has the forward service's instance.
abbrev pub BeginsFree : Type 0
BeginsFree =
    (site : Site) (entries : List Entry) (workers door : ℕ) (h : List Event)
    → IsFalse (list_any (λ e. is_by door e.call) h)
    → IsFree site door (replay (opened (opening_of site entries workers)) h)
