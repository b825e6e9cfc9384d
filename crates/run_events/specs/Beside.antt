-- Events of STARTs beside other events of a world: they leave all but the STARTs as it is. This
-- product's own.
use Rattle.std.specs.Prelude.{◌≡◌, Bool, true, false, not, IsTrue, List, [], ◌∷◌, map}
use Rattle.std.specs.List.{filter}
use Rattle.std.specs.Option.{option_map}
use Rattle.station_world.specs.Life.{Life}
use Rattle.station_world.specs.World.{World, Event, starts, makes_round, ends_start, after_event}
use Rattle.station_world.specs.World.{after_events}
use Rattle.station_world.specs.Comes.{Comes, AllCome}

-- whether a START is taken, makes a round, or ends
abbrev pub is_of_start : Event → Bool
is_of_start (starts a) = true
is_of_start (makes_round place r) = true
is_of_start (ends_start place) = true
is_of_start _ = false

-- the other events of a list
abbrev pub without_starts : List Event → List Event
without_starts events = filter (λ e. not (is_of_start e)) events

-- each event of a START may come where it stands
abbrev pub StartsCome : World → List Event → Type 0
StartsCome w [] = Unit {0}
StartsCome w (e ∷ events) =
    (IsTrue (is_of_start e) → Comes w e) × StartsCome (after_event w e) events

-- a world with no STARTs
abbrev pub bare_life : Life → Life
bare_life l = record l { starts = [] }

abbrev pub bare : World → World
bare w = record w { past = map bare_life w.past; now = option_map bare_life w.now }

-- Where all other events of a list may come, and each event of a START where it stands, all may
-- come, and lead to the same world as the others alone, but for its STARTs.
abbrev pub StartsStandBeside : Type 0
StartsStandBeside =
    (w : World) (events : List Event) → AllCome w (without_starts events)
    → StartsCome w events
    → AllCome w events
    × (bare (after_events w events) ≡ bare (after_events w (without_starts events)))
