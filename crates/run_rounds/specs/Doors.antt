-- What the turns of a run's doors make of STARTs, each right behind its turn. This product's own.
use Rattle.std.specs.Prelude.{◌≡◌, ℕ, Option, Some, None, List, [], ◌∷◌, ◌++◌}
use Rattle.std.specs.List.{filter}
use Rattle.station_book.specs.Doors.{is_by}
use Rattle.station_book.specs.Publishing.{front_of}
use Rattle.station_book.specs.State.{Event as Answered}
use Rattle.station_world.specs.Life.{Start}
use Rattle.station_world.specs.World.{World, calls, after_events}
use Rattle.line_events.specs.Progress.{Progress, none_runs, ended_now}
use Rattle.line_events.specs.Progress.{progress_events, progressed, IsFit}
use Rattle.run_events.specs.Turns.{Turn, events_of_turn}

-- ---- where a turn stands

-- the world right behind its call
abbrev pub called_in : World → Turn → World
called_in w t = after_events w (t.before ++ calls t.answered.call ∷ [])

-- each turn with that world
abbrev pub placed : World → List Turn → List (World × Turn)
placed w [] = []
placed w (t ∷ turns) =
    (called_in w t, t) ∷ placed (after_events w (events_of_turn t)) turns

-- ---- a door's turns

-- it makes this of the STARTs of its door, and nothing else stands beside it
pub record Makes (door : ℕ) (p : Progress) (w : World) (t : Turn) : Type 0 where
  pub before : t.before ≡ []
  pub behind : t.behind ≡ progress_events door w p

-- one after the other
abbrev pub AllMake : ℕ → List Progress → List (World × Turn) → Type 0
AllMake door [] [] = Unit {0}
AllMake door (p ∷ ps) (x ∷ turns) = Makes door p x.0 x.1 × AllMake door ps turns
AllMake door _ _ = ⊥

abbrev pub turns_by : ℕ → List (World × Turn) → List (World × Turn)
turns_by door turns = filter (λ x. is_by door x.1.answered.call) turns

-- the door's events in a history
abbrev pub events_by : ℕ → List Answered → List Answered
events_by door h = filter (λ e. is_by door e.call) h

-- ---- what they leave of the door's STARTs

-- the front that an answer saw
abbrev pub seen_by : Option ℕ → ℕ
seen_by None = 0
seen_by (Some front) = front

abbrev pub made_of : ℕ → List Answered → List Progress → List Start → List Start
made_of door (e ∷ es) (p ∷ ps) all =
    made_of door es ps (progressed door (seen_by (front_of e.reply)) p all)
made_of door _ _ all = all

-- ---- what may be made

-- an answer makes what is fit at the front that it saw, and another event ends a START at most
abbrev pub FitsAt : ℕ → Option ℕ → Progress → Type 0
FitsAt door (Some front) p = IsFit door front p
FitsAt door None none_runs = Unit {0}
FitsAt door None ended_now = Unit {0}
FitsAt door None _ = ⊥

abbrev pub AllFit : ℕ → List Answered → List Progress → Type 0
AllFit door [] [] = Unit {0}
AllFit door (e ∷ es) (p ∷ ps) = FitsAt door (front_of e.reply) p × AllFit door es ps
AllFit door _ _ = ⊥
