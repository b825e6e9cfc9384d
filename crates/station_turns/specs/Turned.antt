-- A call of a station's book that was made in a turn of its own. This product's own.
use Rattle.std.specs.Prelude.{◌≡◌, ℕ, ◌+◌, ◌-◌, Bool, List, [], ◌∷◌, ◌++◌, Some}
use mathlib.Core.List.{IsPrefix}
use Rattle.archive_terms.specs.Archive.{Entry}
use Rattle.turn_lock.specs.PassState.{PassState, Lock}
use Rattle.turn_lock.specs.Own.{mark, AllStand}
use Rattle.turn_lock.specs.declared.pass.Standing.TheVariants.{Ready}
use Rattle.cltu_queue.specs.declared.taken.Taken.{Taken}
use Rattle.station_book.specs.State.{Opening, opened, Call, Event, Reply, publish, take, took}
use Rattle.station_book.specs.History.{event_at, replay, IsLegal, all_gone}

-- the event of a call that one thread makes behind the events of this list
abbrev pub called : Opening → List Event → Call → Event
called o before call = event_at (replay (opened o) before) call

-- the pass is of this lock, and has no open turn
abbrev pub IsReady : Lock Opening → PassState Event Opening → Type 0
IsReady lock pass = (pass.lock ≡ Some lock) × (pass.standing ≡ Ready)

-- What a pass has seen of the history is legal from the lock's origin, and its own events and those
-- of the passes that were joined into it stand in it.
pub record IsSound (lock : Lock Opening) (pass : PassState Event Opening) : Type 0 where
  pub legal : IsLegal (opened lock.origin) pass.seen
  pub stand : AllStand pass.seen (pass.own ∷ pass.joined)

-- A pass made a call in a turn, behind the events of some list that begins with all that it had
-- seen: it has seen that list and the call's event, which is the last of its own.
pub record Makes (lock : Lock Opening) (call : Call) (old new : PassState Event Opening)
    : Type 0 where
  pub before : List Event
  pub later : IsPrefix old.seen before
  pub pass : new ≡ record old {
    left = old.left - 1;
    entered = old.entered + 1;
    seen = before ++ called lock.origin before call ∷ [];
    own = old.own ++ mark before (called lock.origin before call) ∷ [];
  }
  pub sound : IsSound lock new

-- A pass entered a turn and left it: it has seen a longer list, and added nothing.
pub record Leaves (lock : Lock Opening) (old new : PassState Event Opening) : Type 0 where
  pub before : List Event
  pub later : IsPrefix old.seen before
  pub pass : new ≡ record old {
    left = old.left - 1;
    entered = old.entered + 1;
    seen = before;
  }
  pub sound : IsSound lock new

-- a pass published entries, which was answered so
pub record Publishes (lock : Lock Opening) (entries : List Entry) (reply : Reply)
    (old new : PassState Event Opening) : Type 0 where
  pub makes : Makes lock (publish entries) old new
  pub replied : (called lock.origin makes.before (publish entries)).reply ≡ reply

-- A pass asked what may radiate, and was answered so; it saw there whether all other workers were
-- gone.
pub record Takes (lock : Lock Opening) (reading : ℕ) (taken : Taken) (were_gone : Bool)
    (old new : PassState Event Opening) : Type 0 where
  pub makes : Makes lock (take reading) old new
  pub replied : (called lock.origin makes.before (take reading)).reply ≡ took taken
  pub gone : were_gone ≡ all_gone (replay (opened lock.origin) makes.before)
