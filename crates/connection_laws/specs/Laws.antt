-- The laws of sessions and of books that the law on connections rests on.
use Rattle.std.specs.Prelude.{◌≡◌, ℕ, IsFalse, List}
use Rattle.std.specs.List.{list_any}
use Rattle.station_book.specs.State.{State, Event, Opening, opened}
use Rattle.station_book.specs.History.{replay, instance_of}
use Rattle.station_book.specs.Doors.{Has, is_by}
use Rattle.session_laws.specs.Losing.{NothingIsLost, BeginsFree}

pub record Laws : Type 0 where
  pub lost : NothingIsLost
  pub begins : BeginsFree
  pub single : (o : Opening) (h : List Event) (door i j : ℕ) → Has (replay (opened o) h) door i
      → Has (replay (opened o) h) door j → i ≡ j
  pub others : (s : State) (h : List Event) (door : ℕ)
      → IsFalse (list_any (λ e. is_by door e.call) h)
      → instance_of (replay s h) door ≡ instance_of s door
