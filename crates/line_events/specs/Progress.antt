-- What a round of a session makes of the START of its door, as events of a world. This product's own.
use Rattle.std.specs.Prelude.{◌≡◌, ℕ, suc, ◌<◌, ◌==◌, Bool, true, false, not, ◌&&◌, IsFalse}
use Rattle.std.specs.Prelude.{Option, Some, None, List, [], ◌∷◌, ◌++◌, length}
use Rattle.std.specs.List.{filter}
use Rattle.std.specs.Option.{option_map_or}
use Rattle.archive_terms.specs.Archive.{Entry}
use Rattle.archive_terms.specs.Rounds.{Round}
use Rattle.station_world.specs.Life.{Start, Life, Asked, begun, change_at, with_round, with_end}
use Rattle.station_world.specs.World.{World, Event, starts, makes_round, ends_start}

-- No START of the door is taken or goes on; one is taken; the one that goes on makes a round; it
-- ends.
pub data Progress : Type 0 where
  none_runs : Progress
  taken_now : Asked → Progress
  goes_by : Round → Progress
  ended_now : Progress

-- ---- the START that goes on

abbrev pub is_at : ℕ → Start → Bool
is_at door s = s.door == door

abbrev pub is_going : ℕ → Start → Bool
is_going door s = is_at door s && not s.ended

-- the place of a door's START that goes on, the last one if there are more
abbrev pub going_by : Bool → Option ℕ → Option ℕ
going_by goes (Some place) = Some (suc place)
going_by true None = Some 0
going_by false None = None

abbrev pub going_in : ℕ → List Start → Option ℕ
going_in door [] = None
going_in door (s ∷ others) = going_by (is_going door s) (going_in door others)

-- in the life that goes on
abbrev pub going_at : ℕ → World → Option ℕ
going_at door w = option_map_or (λ (l : Life). going_in door l.starts) w.now None

-- ---- its events

abbrev pub events_at : Option ℕ → (ℕ → Event) → List Event
events_at None event = []
events_at (Some place) event = event place ∷ []

-- of a door's START, in a world
abbrev pub progress_events : ℕ → World → Progress → List Event
progress_events door w none_runs = []
progress_events door w (taken_now a) = starts a ∷ []
progress_events door w (goes_by r) = events_at (going_at door w) (λ place. makes_round place r)
progress_events door w ended_now = events_at (going_at door w) ends_start

-- ---- what it leaves of STARTs

-- the START at a place changes, if there is a place
abbrev pub changed_at : Option ℕ → (Start → Start) → List Start → List Start
changed_at None change all = all
changed_at (Some place) change all = change_at place change all

-- the one of a door that goes on changes
abbrev pub change_going : ℕ → (Start → Start) → List Start → List Start
change_going door change all = changed_at (going_in door all) change all

-- where so many entries are published
abbrev pub progressed : ℕ → ℕ → Progress → List Start → List Start
progressed door front none_runs all = all
progressed door front (taken_now a) all = all ++ begun a front ∷ []
progressed door front (goes_by r) all = change_going door (with_round r) all
progressed door front ended_now all = change_going door with_end all

-- ---- which may be

-- it takes a START of its door and of some buffer size, and a round is at this front
abbrev pub IsFit : ℕ → ℕ → Progress → Type 0
IsFit door front none_runs = Unit {0}
IsFit door front (taken_now a) = (a.door ≡ door) × (0 < a.size)
IsFit door front (goes_by r) = r.front ≡ front
IsFit door front ended_now = Unit {0}

abbrev pub IsUsers : ℕ → Type 0
IsUsers door = IsFalse (door == 0)

-- a user's door makes something of STARTs, and sees all that is published
abbrev pub MayProgress : ℕ → List Entry → Progress → Type 0
MayProgress door published none_runs = Unit {0}
MayProgress door published p = IsUsers door × IsFit door (length published) p

-- ---- whose it is

-- a START that is taken is at the door
abbrev pub IsOf : ℕ → Progress → Type 0
IsOf door (taken_now a) = a.door ≡ door
IsOf door _ = Unit {0}

-- What a round makes of STARTs it makes of those of its door, and of no others.
pub record ProgressIsOfItsDoor : Type 0 where
  pub own : (door front : ℕ) (p : Progress) (all : List Start) → IsOf door p
      → filter (is_at door) (progressed door front p all)
      ≡ progressed door front p (filter (is_at door) all)
  pub others : (door other front : ℕ) (p : Progress) (all : List Start) → IsOf door p
      → (door == other) ≡ false
      → filter (is_at other) (progressed door front p all) ≡ filter (is_at other) all
