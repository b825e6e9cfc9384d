-- The steps of an antenna's worker. This product's own.
use Rattle.std.specs.Prelude.{◌≡◌, ℕ, ◌+◌, ◌≤◌, min, Bool, true, false, List, [], ◌∷◌}
use Rattle.std.specs.List.{flat_map}
use Rattle.octet_core.specs.Fault.{last_count}
use Rattle.turn_lock.specs.declared.view.Mark.{Mark}
use Rattle.cltu_queue.specs.declared.taken.Taken.{Taken}
use Rattle.cltu_queue.specs.declared.taken.Taken.TheVariants.{Radiate}
use Rattle.station_book.specs.State.{Event, took, take, done, interrupted}

-- A step: its take gave no CLTU; or it gave one with these octets, and the turn behind the send says
-- that it was radiated, or that its radiation was interrupted.
pub data Step : Type 0 where
  looked : Mark Event → Step
  radiated : Mark Event → List ℕ → Mark Event → Step
  broke_off : Mark Event → List ℕ → Mark Event → Step

-- the events of a step
abbrev pub marks_of : Step → List (Mark Event)
marks_of (looked m) = m ∷ []
marks_of (radiated m octets n) = m ∷ n ∷ []
marks_of (broke_off m octets n) = m ∷ n ∷ []

-- what a step sent
abbrev pub sent_of : Step → List (List ℕ)
sent_of (radiated m octets n) = octets ∷ []
sent_of _ = []

abbrev pub is_radiated : Step → Bool
is_radiated (radiated m octets n) = true
is_radiated _ = false

abbrev pub is_broken_off : Step → Bool
is_broken_off (broke_off m octets n) = true
is_broken_off _ = false

-- a take that gave no CLTU
abbrev pub IsNone : Taken → Type 0
IsNone (Radiate run id octets) = ⊥
IsNone taken = Unit {0}

-- An event asks at a reading what may radiate, and is answered this.
pub record IsTake (taken : Taken) (event : Event) : Type 0 where
  pub reading : ℕ
  pub call : event.call ≡ take reading
  pub reply : event.reply ≡ took taken

-- An event tells at a reading that this CLTU was radiated, or that its radiation was interrupted.
pub record IsDone (run id : ℕ) (event : Event) : Type 0 where
  pub reading : ℕ
  pub call : event.call ≡ done run id reading

pub record IsInterrupted (run id : ℕ) (event : Event) : Type 0 where
  pub reading : ℕ
  pub call : event.call ≡ interrupted run id reading

-- A step's events are what it says: each radiation is followed by its own end.
abbrev pub IsStep : Step → Type 0
IsStep (looked m) = (taken : Taken) × IsNone taken × IsTake taken m.event
IsStep (radiated m octets n) = (run id : ℕ) × IsTake (Radiate run id octets) m.event
    × IsDone run id n.event
IsStep (broke_off m octets n) = (run id : ℕ) × IsTake (Radiate run id octets) m.event
    × IsInterrupted run id n.event

-- the events of steps, in order
abbrev pub marks_in : List Step → List (Mark Event)
marks_in steps = flat_map marks_of steps

-- what steps sent, in order
abbrev pub sent_in : List Step → List (List ℕ)
sent_in steps = flat_map sent_of steps

-- A count went up by one so often, and stood still at its last value.
pub record Raised (times before now : ℕ) : Type 0 where
  pub never_falls : before ≤ now
  pub exact : before ≤ last_count → now ≡ min (before + times) last_count
