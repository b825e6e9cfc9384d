-- What each step on the table tells of the seat before and after it.
use Rattle.std.specs.Prelude.{◌≡◌, ◌==◌, ℕ, ◌+◌, ◌-◌, ◌<◌, ◌≤◌, List, [], ◌∷◌, ◌++◌, length, nat_lt}
use Rattle.std.specs.Prelude.{if◌then◌else◌, Option, Some, None, MatchBool}
use mathlib.Core.List.{IsPrefix}
use Rattle.atomic_table.specs.Table.{Me, Step, rest}
use Rattle.atomic_table.specs.Seated.{TableId}
use Rattle.atomic_table.specs.declared.shared.Seat.{Seat}
use Rattle.turn_lock.specs.declared.view.View.{View}
use Rattle.turn_lock.specs.Own.{own_with, AllStand, MakeUp}
use Rattle.turn_lock.specs.Rule.{own_lists, with_added}

abbrev pub longer : {E : Type 0} → List E → List E → List E
longer xs ys = if nat_lt (length xs) (length ys) then ys else xs

abbrev pub shorter : {E : Type 0} → List E → List E → List E
shorter xs ys = if nat_lt (length xs) (length ys) then xs else ys

abbrev pub list_of : {E : Type 0} → Option (List E) → List E
list_of (Some h) = h
list_of None = []

-- it is a seat of this table, which has the lock's three words
abbrev pub IsSeatOf : {S V : Type 0} → TableId → Seat S V → Type 0
IsSeatOf table seat = (seat.table_id ≡ table) × (table.words ≡ 3)

-- it is the same seat of the same table
abbrev pub IsSameSeat : {S V : Type 0} → Seat S V → Seat S V → Type 0
IsSameSeat old new = (new.table_id ≡ old.table_id) × (new.id ≡ old.id)

-- a seat's view, and the slots that it holds
abbrev Sat : Type 0 → Type 0 → Type 0 → Type 0
Sat T E O = Me (Option T) (View E O)

module _ {E O : Type 0} where
  -- a turn was entered, and has the ticket n
  abbrev pub entering : View E O → ℕ → View E O
  entering v n = record v { left = v.left - 1; entered = v.entered + 1; ticket = Some n }

  -- the ticket word was n
  abbrev pub finding : View E O → ℕ → View E O
  finding v n = record v { found = n }

  -- the turn has the value, which stood for h
  abbrev pub holding : View E O → List E → View E O
  holding v h = record v { kept = Some h; added = None }

  -- the history h was seen
  abbrev pub seeing : View E O → List E → View E O
  seeing v h = record v { seen = h }

  -- the event was added to the history h, and to the own events
  abbrev pub adding : View E O → List E → Option E → View E O
  adding v h e = record v { added = e; seen = with_added h e; own = own_with v.own h e }

  -- the list for which the value stands that the turn gives back
  abbrev pub given_back : View E O → List E
  given_back v = with_added (list_of v.kept) v.added

  -- the turn has ended
  abbrev pub resting : View E O → View E O
  resting v = record v { ticket = None; kept = None; added = None }

  -- n turns were given away
  abbrev pub giving : View E O → ℕ → View E O
  giving v n = record v { left = v.left - n }

  -- n turns were got, with what the giver has seen
  abbrev pub given : View E O → ℕ → View E O
  given v n = record v {
    left = n;
    entered = 0;
    ticket = None;
    kept = None;
    added = None;
    own = [];
    joined = [];
    noted_own = v.own;
    noted_joined = v.joined;
  }

  -- the turns of both
  abbrev pub lent : View E O → View E O → View E O
  lent v w = record v { left = v.left + w.left; entered = v.entered + w.entered }

  -- the turns of both, and what both know
  abbrev pub both : View E O → View E O → View E O
  both v w = record v {
    left = v.left + w.left;
    entered = v.entered + w.entered;
    seen = longer v.seen w.seen;
    beginning = shorter v.seen w.seen;
    joined = v.joined ++ w.own ∷ w.joined;
  }

module _ {T E O : Type 0} where
  -- a ticket was drawn
  abbrev pub Draws : Step (Option T) → Sat T E O → ℕ → Sat T E O → Type 0
  Draws st m found m' = m' ≡ (entering m.0 found, m.1)

  -- the seat took the value from the slot. It has the origin that the view has, and stands for a
  -- list that begins with all that the view has seen
  abbrev pub Takes : (T → O) → (T → List E → Type 0) → View E O → Sat T E O → Sat T E O → Type 0
  Takes origin stands v m m' = (x : T) × (h : List E) × (m' ≡ (holding v h, (0, Some x) ∷ m.1))
      × (m.0.origin ≡ Some (origin x)) × stands x h × IsPrefix m.0.seen h

  -- a turn was entered, and the value taken out of the slot
  abbrev pub HasTaken : (T → O) → (T → List E → Type 0) → Sat T E O → Sat T E O → T → Type 0
  HasTaken origin stands m m' x = (n : ℕ) × (h : List E)
      × (m' ≡ (holding (entering m.0 n) h, (0, None) ∷ m.1)) × (m.0.origin ≡ Some (origin x))
      × stands x h × IsPrefix m.0.seen h

  -- the ticket that is served was read, and the value was taken if it is the seat's own
  abbrev pub Looks : (T → O) → (T → List E → Type 0) → Step (Option T) → Sat T E O → ℕ → Sat T E O
      → Type 0
  Looks origin stands st m found m' = (n : ℕ) → m.0.ticket ≡ Some n
      → MatchBool (found == n) (Takes origin stands m.0 m m') (m' ≡ m)

  -- the history was seen, as long as the word says. It begins with all that was seen before, and is
  -- the list of the value that the seat has
  abbrev pub Sees : Step (Option T) → Sat T E O → ℕ → Sat T E O → Type 0
  Sees st m found m' = (l : List E) × (m' ≡ (seeing m.0 l, m.1)) × (length l ≡ found)
      × IsPrefix m.0.seen l × AllStand l (own_lists m.0)
      × ((h : List E) → m.0.kept ≡ Some h → l ≡ with_added h m.0.added)

  -- the event was added to the list of the value that the seat has
  abbrev pub Adds : Option E → Step (Option T) → Sat T E O → ℕ → Sat T E O → Type 0
  Adds e st m found m' = (h : List E) → m.0.kept ≡ Some h
      → (m' ≡ (adding m.0 h e, m.1)) × (length h ≡ found)
      × AllStand (with_added h e) (own_lists (adding m.0 h e))

  -- the value was put back, and the next ticket is served
  abbrev pub Ends : Step (Option T) → Sat T E O → ℕ → Sat T E O → Type 0
  Ends st m found m' = m' ≡ (resting m.0, rest m.1)

  -- the turns of a view are at most those of the lock, and the one that closes it. What was seen
  -- begins with the shorter of the lists that two seats had seen as they were joined
  abbrev pub Learns : Step (Option T) → Sat T E O → ℕ → Sat T E O → Type 0
  Learns st m found m' = (m' ≡ m) × (m.0.left + m.0.entered ≤ m.0.turns + 1)
      × IsPrefix m.0.beginning m.0.seen

  -- the ticket word was read, and stays in mind. The last turn was entered and the value taken, as
  -- all turns so far were the seat's, so that its own lists make up the history; or there were more
  abbrev pub Closes : (T → O) → (T → List E → Type 0) → Step (Option T) → Sat T E O → ℕ → Sat T E O
      → Type 0
  Closes origin stands st m found m' = MatchBool (found == st.first)
      (Takes origin stands (entering (finding m.0 found) found) m m'
      × MakeUp (given_back m'.0) (own_lists m.0)) ((m' ≡ (finding m.0 found, m.1))
      × (m.0.entered < found) × (m.0.left + found ≤ m.0.turns + 1))
