-- The events of a history that passes have as their own, each with its place. This product's own.
use Rattle.std.specs.List.{sum_by}
use Rattle.std.specs.Prelude.{◌≡◌, ◌==◌, ℕ, ◌+◌, ◌≤◌, List, [], ◌∷◌, ◌++◌, length, slice_get}
use Rattle.std.specs.Prelude.{if◌then◌else◌, Option, Some, None}
use Rattle.turn_lock.specs.declared.view.Mark.{Mark}

-- 1 where there is one, else 0
abbrev pub counts : {A : Type 0} → Option A → ℕ
counts (Some _) = 1
counts None = 0

module _ {E : Type 0} where
  -- the event that comes next after the history h, at its place
  abbrev pub mark : List E → E → Mark E
  mark h e = record { place = length h; event = e }

  -- the own events, and the event that comes next after h if there is one
  abbrev pub own_with : List (Mark E) → List E → Option E → List (Mark E)
  own_with own h (Some e) = own ++ mark h e ∷ []
  own_with own h None = own

  -- 1 where the event has the place k, else 0
  abbrev pub is_place : ℕ → Mark E → ℕ
  is_place k m = if m.place == k then 1 else 0

  -- how many events of the list have the place k
  abbrev pub times_in : ℕ → List (Mark E) → ℕ
  times_in k [] = 0
  times_in k (m ∷ ms) = is_place k m + times_in k ms

  -- how many events of all lists have the place k
  abbrev pub times : ℕ → List (List (Mark E)) → ℕ
  times k [] = 0
  times k (ms ∷ lists) = times_in k ms + times k lists

  -- how many events the lists have
  abbrev pub total : List (List (Mark E)) → ℕ
  total [] = 0
  total (ms ∷ lists) = length ms + total lists

  -- what the events of all lists weigh
  abbrev pub weight_of : (E → ℕ) → List (List (Mark E)) → ℕ
  weight_of f [] = 0
  weight_of f (ms ∷ lists) = sum_by (λ m. f m.event) ms + weight_of f lists

  -- the events stand in the history at their places, which rise from n on
  abbrev pub StandFrom : List E → ℕ → List (Mark E) → Type 0
  StandFrom h n [] = Unit {0}
  StandFrom h n (m ∷ ms) = (n ≤ m.place) × (slice_get h m.place ≡ Some m.event)
      × StandFrom h (m.place + 1) ms

  -- the events of each list stand in the history, in its order
  abbrev pub AllStand : List E → List (List (Mark E)) → Type 0
  AllStand h [] = Unit {0}
  AllStand h (ms ∷ lists) = StandFrom h 0 ms × AllStand h lists

  -- the lists together have each event of the history exactly once, and nothing else
  pub record MakeUp (h : List E) (lists : List (List (Mark E))) : Type 0 where
    pub stand : AllStand h lists
    pub once : (k : ℕ) → times k lists ≡ counts (slice_get h k)
