-- What a pass gained over turns one after the other. This product's own.
use Rattle.std.specs.Prelude.{◌≡◌, ℕ, ◌+◌, List, ◌++◌, map}
use mathlib.Core.List.{IsPrefix}
use Rattle.turn_lock.specs.PassState.{PassState, Lock}
use Rattle.turn_lock.specs.declared.view.Mark.{Mark}
use Rattle.station_book.specs.State.{Opening, Event, Call}
use Rattle.station_turns.specs.Turned.{IsReady, IsSound}

-- the events of own marks, and the calls of these
abbrev pub events_of : List (Mark Event) → List Event
events_of marks = map (λ m. m.event) marks

abbrev pub calls_of : List (Mark Event) → List Call
calls_of marks = map (λ m. m.event.call) marks

-- A pass spent so many turns, and gained these events as its own, behind those that it had. What it
-- has seen begins with what it had seen.
pub record Gains (lock : Lock Opening) (spent : ℕ) (gained : List (Mark Event))
    (old new : PassState Event Opening) : Type 0 where
  pub ready : IsReady lock new
  pub own : new.own ≡ old.own ++ gained
  pub joined : new.joined ≡ old.joined
  pub left : new.left + spent ≡ old.left
  pub entered : new.entered ≡ old.entered + spent
  pub later : IsPrefix old.seen new.seen
  pub sound : IsSound lock old → IsSound lock new
