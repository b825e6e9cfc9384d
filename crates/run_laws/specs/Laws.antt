-- The laws of sessions, of books and of the lock that the law of runs rests on.
use Rattle.std.specs.Prelude.{◌≡◌, ℕ, ◌&&◌, IsFalse, List, [], ◌∷◌, ◌++◌}
use Rattle.std.specs.List.{list_any, sum_by}
use Rattle.archive_terms.specs.Archive.{Entry, is_archive, may_follow}
use Rattle.turn_lock.specs.Own.{weight_of, MakeUp}
use Rattle.turn_lock.specs.declared.view.Mark.{Mark}
use Rattle.station_config.specs.Validity.{IsSite}
use Rattle.station_config.specs.declared.site.Site.{Site}
use Rattle.station_book.specs.State.{State, Event, Opening, opened}
use Rattle.station_book.specs.History.{replay, instance_of}
use Rattle.station_book.specs.Doors.{Has, is_by, HasOneForward}
use Rattle.station_book.specs.Origin.{kinds_of}
use Rattle.session_laws.specs.Losing.{NothingIsLost, BeginsFree}

pub record Laws : Type 0 where
  pub lost : NothingIsLost
  pub begins : BeginsFree
  pub single : (o : Opening) (h : List Event) (door i j : ℕ) → Has (replay (opened o) h) door i
      → Has (replay (opened o) h) door j → i ≡ j
  pub others : (s : State) (h : List Event) (door : ℕ)
      → IsFalse (list_any (λ e. is_by door e.call) h)
      → instance_of (replay s h) door ≡ instance_of s door
  pub one : (site : Site) → IsSite site → HasOneForward (kinds_of site.instances)
  pub grows : (a : List Entry) (e : Entry)
      → is_archive (a ++ e ∷ []) ≡ (is_archive a && may_follow a e)
  pub weighs : (f : Event → ℕ) (h : List Event) (lists : List (List (Mark Event)))
      → MakeUp h lists → weight_of f lists ≡ sum_by f h
