-- What happened stays: a later world has the lives of an earlier one, in which each START has done
-- what it had done, and what it did since then. This product's own.
use Rattle.std.specs.Prelude.{◌≡◌, List, [], ◌∷◌, ◌++◌}
use Rattle.station_world.specs.Life.{Start, Life, done_by}
use Rattle.station_world.specs.World.{World, before_all, lives, Event, after_events}
use Rattle.station_world.specs.Comes.{Begins, AllCome}

-- each element of a list is so to the one at its place of another, which may be longer
abbrev pub Match : {X : Type 0} → (X → X → Type 0) → List X → List X → Type 0
Match R [] ys = Unit {0}
Match R (x ∷ xs) [] = ⊥
Match R (x ∷ xs) (y ∷ ys) = R x y × Match R xs ys

-- a START, and the same later: it has done what it had done, and what it did since then
pub record StartGoesOn (l m : Life) (s later : Start) : Type 0 where
  pub door : later.door ≡ s.door
  pub terms : later.terms ≡ s.terms
  pub done : Begins (done_by l s) (done_by m later)

-- a life, and the same later
pub record LifeGoesOn (l m : Life) : Type 0 where
  pub opening : m.opening ≡ l.opening
  pub history : Begins l.history m.history
  pub each : Match (StartGoesOn l m) l.starts m.starts

-- a later world has the lives of an earlier one, and what was done in them
abbrev pub LivesGoOn : World → World → Type 0
LivesGoOn w later = Match LifeGoesOn (lives w) (lives later)

-- it is so behind every list of events and behind every longer one
abbrev pub WhatWasDoneStays : Type 0
WhatWasDoneStays =
    (events more : List Event) → AllCome before_all (events ++ more)
    → LivesGoOn (after_events before_all events) (after_events before_all (events ++ more))

-- Where earlier events led to this world: it holds of the world after any prefix of these events,
-- and of each world that further events lead to from there. These may be the rest of the events or
-- others that may come. Before all there are no earlier ones.
abbrev pub AtEachMoment : (World → World → Type 0) → World → List Event → Type 0
AtEachMoment holds w events =
    (earlier prefix next : List Event) → AllCome before_all earlier
    → after_events before_all earlier ≡ w → Begins prefix events → AllCome w (prefix ++ next)
    → holds (after_events w prefix) (after_events w (prefix ++ next))
