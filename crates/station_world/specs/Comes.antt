-- Which event may come in a world. This product's own.
use Rattle.std.specs.Prelude.{◌≡◌, ℕ, ◌≤◌, ◌<◌, Bool, true, false, IsTrue, Option, Some, None, List, []}
use Rattle.std.specs.Prelude.{◌∷◌, ◌++◌, length, slice_get}
use Rattle.archive_terms.specs.Archive.{may_follow}
use Rattle.archive_terms.specs.Rounds.{Round, last_front}
use Rattle.cltu_queue.specs.Run.{Radiation}
use Rattle.station_book.specs.State.{Call, publish}
use Rattle.station_world.specs.File.{Phase, settled, in_store, File, acknowledged}
use Rattle.station_world.specs.Life.{Start, Life, book}
use Rattle.station_world.specs.World.{World, Event, offers, begins_store, ends_store, reopens, calls}
use Rattle.station_world.specs.World.{starts, makes_round, ends_start, sends, reads, loses_power}
use Rattle.station_world.specs.World.{restarts, after_event}

-- one list stands at the front of another
abbrev pub Begins : {X : Type 0} → List X → List X → Type 0
Begins {X} front whole = (more : List X) × (whole ≡ front ++ more)

-- a life goes on, and this holds of it
abbrev pub Lives : Option Life → (Life → Type 0) → Type 0
Lives None holds = ⊥
Lives (Some l) holds = holds l

abbrev pub IsUp : World → Type 0
IsUp w = Lives w.now (λ l. Unit {0})

-- a store runs
abbrev pub is_in_store : Phase → Bool
is_in_store (in_store batch) = true
is_in_store _ = false

-- the file stands for one list
abbrev pub is_settled : Phase → Bool
is_settled settled = true
is_settled _ = false

-- no store runs
abbrev pub is_idle : Phase → Bool
is_idle (in_store batch) = false
is_idle _ = true

-- A publishing comes only where the file stands for one list, and its entries are the next ones of
-- that list behind the published ones, or none. Every other call of the book may come.
abbrev pub MayCall : File → Life → Call → Type 0
MayCall f l (publish entries) =
    IsTrue (is_settled f.phase) × Begins ((book l).published ++ entries) (acknowledged f)
MayCall f l call = Unit {0}

-- A round is of a START that goes on, and its front is no less than that of the round before it,
-- and no more than is published.
pub record MayMake (l : Life) (place : ℕ) (r : Round) : Type 0 where
  pub start : Start
  pub there : slice_get l.starts place ≡ Some start
  pub goes_on : start.ended ≡ false
  pub rises : last_front 0 start.rounds ≤ r.front
  pub published : r.front ≤ length (book l).published

-- An entry is taken while no store runs, where it may follow the acknowledged and waiting ones. A
-- store begins only where there is one list, and ends once. A reopen comes while no store runs. A
-- START has a buffer of some size. A send comes at most once behind a take that radiated and before
-- the next take. The clock may read any moment, and the power may fail at any time. Behind a power
-- failure nothing but a recovery comes.
abbrev pub Comes : World → Event → Type 0
Comes w (offers entry) =
    IsTrue (is_idle w.file.phase)
    × IsTrue (may_follow (acknowledged w.file ++ w.file.waiting) entry) × IsUp w
Comes w begins_store = IsTrue (is_settled w.file.phase) × IsUp w
Comes w (ends_store good) = IsTrue (is_in_store w.file.phase) × IsUp w
Comes w (reopens finding) = IsTrue (is_idle w.file.phase) × IsUp w
Comes w (calls call) = Lives w.now (λ l. MayCall w.file l call)
Comes w (starts a) = Lives w.now (λ l. 0 < a.size)
Comes w (makes_round place r) = Lives w.now (λ l. MayMake l place r)
Comes w (ends_start place) = IsUp w
Comes w (sends good) = Lives w.now (λ l. (r : Radiation) × (l.to_send ≡ Some r))
Comes w (reads moment) = Unit {0}
Comes w loses_power = Unit {0}
Comes w (restarts o finding) = w.now ≡ None

-- each event of a list may come
abbrev pub AllCome : World → List Event → Type 0
AllCome w [] = Unit {0}
AllCome w (e ∷ events) = Comes w e × AllCome (after_event w e) events
