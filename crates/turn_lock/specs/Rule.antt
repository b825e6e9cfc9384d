-- The rule of the table, this product's own. Word 0 is the ticket that is drawn next, word 1 the
-- ticket that is served, word 2 how many events the history has, and the slot has the value.
use Rattle.std.specs.Prelude.{◌≡◌, ◌⊎◌, ◌==◌, ℕ, ◌+◌, ◌-◌, ◌≤◌, List, [], ◌∷◌, ◌++◌, length}
use Rattle.std.specs.Prelude.{slice_get, if◌then◌else◌, Option, Some, None, sum_by}
use mathlib.Core.List.{IsPrefix}
use mathlib.Core.Option.{none, some}
use mathlib.Core.Option as maybe
use lib.ListN.{get_elem?}
use Rattle.atomic_table.specs.Table.{State}
use Rattle.turn_lock.specs.declared.view.Mark.{Mark}
use Rattle.turn_lock.specs.declared.view.View.{View}
use Rattle.turn_lock.specs.Own.{counts, times, total, AllStand}

-- 1 where the ticket is n, else 0
abbrev pub is_ticket : ℕ → Option ℕ → ℕ
is_ticket n (Some t) = if t == n then 1 else 0
is_ticket n None = 0

-- the list, and the event at its end if there is one
abbrev pub with_added : {E : Type 0} → List E → Option E → List E
with_added h (Some e) = h ++ e ∷ []
with_added h None = h

module _ {E O : Type 0} where
  -- a view of a lock with this origin and so many turns in all, which has `left` of them and has
  -- done nothing yet
  abbrev pub fresh_view : O → ℕ → ℕ → View E O
  fresh_view o turns left = record {
    origin = Some o;
    turns = turns;
    left = left;
    entered = 0;
    found = 0;
    ticket = None;
    kept = None;
    added = None;
    seen = [];
    beginning = [];
    own = [];
    joined = [];
    noted_own = [];
    noted_joined = [];
  }

  abbrev pub spent_view : View E O
  spent_view = record {
    origin = None;
    turns = 0;
    left = 0;
    entered = 0;
    found = 0;
    ticket = None;
    kept = None;
    added = None;
    seen = [];
    beginning = [];
    own = [];
    joined = [];
    noted_own = [];
    noted_joined = [];
  }

  -- a view has the origin and the turns of the lock, or is spent
  abbrev pub IsOf : O → ℕ → View E O → Option O → Type 0
  IsOf first turns v (Some o) = (o ≡ first) × (v.turns ≡ turns)
  IsOf first turns v None = v ≡ spent_view

  -- the own events of a view, and those of each that was joined into it
  abbrev pub own_lists : View E O → List (List (Mark E))
  own_lists v = v.own ∷ v.joined

  -- 1 where a turn may still add an event
  abbrev pub pending : View E O → ℕ
  pending v = counts v.ticket - counts v.added

  module _ {T : Type 0} where
    -- what one view says, while the ticket `serving` is served and the history is `log`
    pub record Fits (first : O) (turns serving : ℕ) (log : List E)
        (homes : List (maybe.Option (Option T))) (v : View E O) : Type 0 where
      pub of : IsOf first turns v v.origin
      -- a turn that has a ticket was entered
      pub counted : counts v.ticket ≤ v.entered
      -- who has the value has the ticket that is served; the slot is empty; and the history is what
      -- the value stood for, with the event that was added
      pub holding : (h : List E) → v.kept ≡ Some h
          → (v.ticket ≡ Some serving) × (homes ≡ none ∷ []) × (log ≡ with_added h v.added)
      -- who has no value has added nothing in this turn
      pub early : counts v.added ≤ counts v.kept
      -- the history begins with all that was seen
      pub prefix : IsPrefix v.seen log
      -- what was seen begins with the shorter of the lists that two seats had seen as they were
      -- joined
      pub begins : IsPrefix v.beginning v.seen
      -- its own events stand in the history, in its order
      pub own : AllStand log (own_lists v)
      -- each turn entered has one own event at most, and none yet where it may still add one
      pub some_own : total (own_lists v) + pending v ≤ v.entered

    -- the value is in the slot, has the lock's origin, and stands for the history
    abbrev pub IsHome : (T → O) → (T → List E → Type 0) → O → List E
        → List (maybe.Option (Option T)) → Type 0
    IsHome origin stands first log homes = (x : T) × (homes ≡ some (Some x) ∷ [])
        × (origin x ≡ first) × stands x log

    -- a seat has the value
    abbrev pub IsOut : List (maybe.Option (Option T)) → List (View E O) → Type 0
    IsOut homes views = (seat : ℕ) × (v : View E O) × (h : List E) × (homes ≡ none ∷ [])
        × (get_elem? views seat ≡ some v) × (v.kept ≡ Some h)

  pub record TableStands {T : Type 0} (origin : T → O) (stands : T → List E
      → Type 0) (first : O) (turns : ℕ) (s : State (Option T) (View E O)) : Type 0 where
    pub ticket : ℕ
    pub serving : ℕ
    -- the history: all events that were committed
    pub log : List E
    pub words : s.words ≡ ticket ∷ serving ∷ length log ∷ []
    -- serving plus the number of views with a ticket is ticket
    pub waiting : serving + sum_by (λ v. counts v.ticket) s.views ≡ ticket
    -- no two views have one ticket, and none has one that is still to be drawn
    pub once : (n : ℕ) → sum_by (λ v. is_ticket n v.ticket) s.views ≤ 1
    pub undrawn : (n : ℕ) → ticket ≤ n → sum_by (λ v. is_ticket n v.ticket) s.views ≡ 0
    -- the turns entered add up to ticket
    pub entered : sum_by (λ v. v.entered) s.views ≡ ticket
    -- who read the ticket word read no more than it is now
    pub heard : (seat : ℕ) (v : View E O) → get_elem? s.views seat ≡ some v → v.found ≤ ticket
    -- each place of the history, and no other, is an own place of exactly one view
    pub once_each : (k : ℕ) → sum_by (λ v. times k (own_lists v)) s.views ≡ counts (slice_get log k)
    -- each turn adds one event at most
    pub few : length log + sum_by pending s.views ≤ ticket
    -- the turns left and ticket are at most the turns of the lock, and the one that closes it
    pub bounded : sum_by (λ v. v.left) s.views + ticket ≤ turns + 1
    pub each_view : (seat : ℕ) (v : View E O) → get_elem? s.views seat ≡ some v
        → Fits first turns serving log s.homes v
    pub slot : IsHome origin stands first log s.homes ⊎ IsOut s.homes s.views
