-- What contracts see of a lock, a pass and an open turn, this product's own.
use Rattle.std.specs.Prelude.{◌≡◌, ℕ, List, [], ◌∷◌, Option, Some, None}
use Rattle.atomic_table.specs.declared.badge.Badge.{Badge}
use Rattle.atomic_table.specs.Seated.{TableId}
use Rattle.turn_lock.specs.declared.pass.Standing.{Standing}
use Rattle.turn_lock.specs.declared.pass.Standing.TheVariants.{Ready, InTurn, Closed}
use Rattle.turn_lock.specs.declared.view.Mark.{Mark}
use Rattle.turn_lock.specs.declared.view.View.{View}
use Rattle.turn_lock.specs.Rule.{spent_view}

-- which lock it is, the origin of the value that it was made of, and how many turns it was made for
pub record Lock (O : Type 0) : Type 0 where
  pub table : TableId
  pub origin : O
  pub turns : ℕ

-- the lock of a pass; how many turns it has left, and how many were entered by it and by those
-- joined into it; how many turns had been entered by any pass when `close` looked last, or 0; all
-- that it has seen of the history; the events that it added, each with its place in the history;
-- those of each pass that was joined into it
pub record PassState (E O : Type 0) : Type 0 where
  pub lock : Option (Lock O)
  pub standing : Standing
  pub left : ℕ
  pub entered : ℕ
  pub found : ℕ
  pub seen : List E
  pub own : List (Mark E)
  pub joined : List (List (Mark E))

-- an open turn: its pass, the list for which the value stood when the turn began, and the value
pub record TurnState (T E O : Type 0) : Type 0 where
  pub pass : PassState E O
  pub list : List E
  pub value : T

abbrev pub lock_at : {O : Type 0} → TableId → ℕ → Option O → Option (Lock O)
lock_at table turns (Some o) = Some (record { table = table; origin = o; turns = turns })
lock_at table turns None = None

module _ {E O : Type 0} where
  -- the lock that a seat's view tells of
  abbrev pub lock_of : TableId → View E O → Option (Lock O)
  lock_of table v = lock_at table v.turns v.origin

  abbrev pub view_of : List (View E O) → View E O
  view_of (v ∷ _) = v
  view_of [] = spent_view

  -- what is known of a seat, by its table and its view
  abbrev pub pass_state : TableId → View E O → Standing → PassState E O
  pass_state table v standing = record {
    lock = lock_of table v;
    standing = standing;
    left = v.left;
    entered = v.entered;
    found = v.found;
    seen = v.seen;
    own = v.own;
    joined = v.joined;
  }

  -- the own events of a pass, whose seat is in the turn while one is open
  abbrev pub own_of : Standing → View E O → List (Mark E)
  own_of Ready v = v.own
  own_of InTurn v = v.noted_own
  own_of Closed v = v.noted_own

  abbrev pub joined_of : Standing → View E O → List (List (Mark E))
  joined_of Ready v = v.joined
  joined_of InTurn v = v.noted_joined
  joined_of Closed v = v.noted_joined

  -- what is known of a pass whose seat is in a turn, by a seat that was split from it
  abbrev pub stubbed : TableId → View E O → Standing → PassState E O
  stubbed table v standing = record (pass_state table v standing) {
    own = v.noted_own;
    joined = v.noted_joined;
  }

  -- the badge is a seat with no open turn, and the numbers are its view's
  pub record IsReady (badge : Badge (View E O)) (left entered : ℕ) : Type 0 where
    pub one : badge.views ≡ view_of badge.views ∷ []
    pub left_is : (view_of badge.views).left ≡ left
    pub entered_is : (view_of badge.views).entered ≡ entered
    pub no_ticket : (view_of badge.views).ticket ≡ None
    pub no_value : (view_of badge.views).kept ≡ None

  -- the badge is a seat of the table, which has the turn that closes the lock and has done nothing
  pub record IsKeeper (badge : Badge (View E O)) (table : TableId) (first : O) (turns : ℕ) : Type
      0 where
    pub same : badge.table_id ≡ table
    pub one : badge.views ≡ view_of badge.views ∷ []
    pub lock_is : lock_of table (view_of badge.views)
        ≡ Some (record { table = table; origin = first; turns = turns })
    pub left_is : (view_of badge.views).left ≡ 1
    pub entered_is : (view_of badge.views).entered ≡ 0
    pub no_ticket : (view_of badge.views).ticket ≡ None
    pub no_value : (view_of badge.views).kept ≡ None
    pub no_own : (view_of badge.views).own ≡ []
    pub no_joined : (view_of badge.views).joined ≡ []
