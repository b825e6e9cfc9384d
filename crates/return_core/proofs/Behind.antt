-- One more round behind others.
use Rattle.std.proofs.Common.{◌≡◌, ℕ, ◌≤◌, Bool, true, false, cond, List, [], ◌∷◌, ◌++◌, map}
use Rattle.std.proofs.Common.{Option, Some, None, refl, arith}
use Rattle.std.proofs.lemmas.List.Folds.{list_all-append}
use Rattle.std.specs.List.{filter_map, cons_option}
use Rattle.std.specs.Option.{option_map_or, option_to_list}
use Rattle.std.proofs.lemmas.Bool.{and_parts}
use Rattle.std.proofs.lemmas.List.{map-append}
use Rattle.std.proofs.lemmas.List.Elements.{filter_map-append}
use Rattle.archive_terms.specs.Archive.{Entry}
use Rattle.archive_terms.specs.Delivery.{Item, Terms, Delivery, started}
use Rattle.archive_terms.specs.Rounds.{whole, Link, Round, Outcome, nothing, fate, at_round}
use Rattle.archive_terms.specs.Rounds.{answer_on, after_round, outcome, is_failed, after_rounds}
use Rattle.archive_terms.specs.Rounds.{outcomes, handed_buffers, FrontsRise, last_front}
use Rattle.archive_terms.specs.Continuity.{told_buffers}
use Rattle.archive_terms.specs.Placed.{ToldItem, Placed, placed_at_start, placed_at_round}
use Rattle.archive_terms.specs.Placed.{placed_after_round, placed_fate, placed_outcome}
use Rattle.archive_terms.specs.Placed.{placed_outcomes}
use Rattle.return_core.specs.Standing.{goes_on, all_go_on, placed_after, handed_told}

-- the law that ties places to counts, for these terms and entries
pub record PlacesAreCounts (t : Terms) (entries : List Entry) : Type 0 where
  pub steps : (rounds : List Round) → FrontsRise t.selection.first rounds
      → map (λ (x : Outcome × Option (List ToldItem)). x.0)
      (placed_outcomes t entries rounds (placed_at_start t)) ≡ outcomes t entries rounds started
  pub told : (rounds : List Round) → FrontsRise t.selection.first rounds
      → filter_map (λ (x : Outcome × Option (List ToldItem)). x.1)
      (placed_outcomes t entries rounds (placed_at_start t))
      ≡ told_buffers entries None (handed_buffers (outcomes t entries rounds started))

-- ---- lists

pub last_same : {X : Type 0} → (xs : List X) (a b : X) → xs ++ a ∷ [] ≡ xs ++ b ∷ [] → a ≡ b
last_same [] a b is = cc
last_same (x ∷ xs) a b is = last_same xs a b (cc)

-- ---- rounds

pub rise_last : (from : ℕ) (rounds : List Round) (r : Round) → FrontsRise from rounds
    → last_front from rounds ≤ r.front → FrontsRise from (rounds ++ r ∷ [])
rise_last from [] r rise later = (later, tt)
rise_last from (x ∷ rounds) r rise later = (rise.0, rise_last x.front rounds r rise.1 later)

pub rise_parts : (from : ℕ) (rounds : List Round) (r : Round) → FrontsRise from (rounds ++ r ∷ [])
    → FrontsRise from rounds × (last_front from rounds ≤ r.front)
rise_parts from [] r rise = (tt, rise.0)
rise_parts from (x ∷ rounds) r rise =
    let rest = rise_parts x.front rounds r rise.1 in ((rise.0, rest.0), rest.1)

pub go_front : (rounds : List Round) (r : Round) → all_go_on (rounds ++ r ∷ []) ≡ true
    → all_go_on rounds ≡ true
go_front rounds r goes = grind (arith, list_all-append)

pub go_last : (rounds : List Round) (r : Round) → all_go_on rounds ≡ true → goes_on r.link ≡ true
    → all_go_on (rounds ++ r ∷ []) ≡ true
go_last rounds r goes last = grind (arith, list_all-append)

-- a link that goes on didn't fail, whatever is offered
pub not_failed : (link : Link) (fixed : Bool) → goes_on link ≡ true
    → is_failed link (cond fixed (answer_on link) None) ≡ false
not_failed link fixed goes = grind arith

pub outcomes-append : (t : Terms) (entries : List Entry) (rounds : List Round) (r : Round)
    (d : Delivery) → all_go_on rounds ≡ true
    → outcomes t entries (rounds ++ r ∷ []) d
    ≡ outcomes t entries rounds d ++ outcome t entries r (after_rounds t entries rounds d) ∷ []
outcomes-append t entries [] r d goes = grind arith
outcomes-append t entries (x ∷ rounds) r d goes =
    let parts : (goes_on x.link ≡ true) × (all_go_on rounds ≡ true) = and_parts _ _ goes in
    rw (
      not_failed x.link (at_round t entries x d).fixed parts.0,
      outcomes-append t entries rounds r (after_round t entries x d) parts.1,
    )

placed_outcomes-append : (t : Terms) (entries : List Entry) (rounds : List Round) (r : Round)
    (p : Placed) → all_go_on rounds ≡ true
    → placed_outcomes t entries (rounds ++ r ∷ []) p
    ≡ placed_outcomes t entries rounds p ++ placed_outcome t entries r
    (placed_after t entries rounds p) ∷ []
placed_outcomes-append t entries [] r p goes = grind arith
placed_outcomes-append t entries (x ∷ rounds) r p goes =
    let parts : (goes_on x.link ≡ true) × (all_go_on rounds ≡ true) = and_parts _ _ goes in
    rw (
      not_failed x.link (placed_at_round t entries x p).fixed parts.0,
      placed_outcomes-append t entries rounds r (placed_after_round t entries x p) parts.1,
    )

pub placed_after-append : (t : Terms) (entries : List Entry) (rounds : List Round) (r : Round)
    (p : Placed)
    → placed_after t entries (rounds ++ r ∷ []) p
    ≡ placed_after_round t entries r (placed_after t entries rounds p)
placed_after-append t entries [] r p = refl
placed_after-append t entries (x ∷ rounds) r p =
    placed_after-append t entries rounds r (placed_after_round t entries x p)

-- ---- what one more round does

pub one_outcome : (t : Terms) (entries : List Entry) (rounds : List Round) (r : Round)
    → PlacesAreCounts t entries
    → FrontsRise t.selection.first (rounds ++ r ∷ []) → all_go_on rounds ≡ true
    → (placed_outcome t entries r (placed_after t entries rounds (placed_at_start t))).0
    ≡ outcome t entries r (after_rounds t entries rounds started)
one_outcome t entries rounds r law rise goes =
    last_same (outcomes t entries rounds started) _ _
    (simp (
      placed_outcomes-append,
      outcomes-append,
      map-append,
      goes,
      law.steps rounds (rise_parts t.selection.first rounds r rise).0,
    )
    at (law.steps (rounds ++ r ∷ []) rise))

one_option : {X : Type 0} (o : Option X) → cons_option o [] ≡ option_to_list o
one_option o = grind arith

pub one_told : (t : Terms) (entries : List Entry) (rounds : List Round) (r : Round)
    → PlacesAreCounts t entries
    → FrontsRise t.selection.first (rounds ++ r ∷ []) → all_go_on rounds ≡ true
    → handed_told t entries (rounds ++ r ∷ [])
    ≡ handed_told t entries rounds ++ option_to_list
    (placed_outcome t entries r (placed_after t entries rounds (placed_at_start t))).1
one_told t entries rounds r law rise goes =
    rw (
      ← law.told (rounds ++ r ∷ []) rise,
      placed_outcomes-append t entries rounds r (placed_at_start t) goes,
      filter_map-append,
      law.told rounds (rise_parts t.selection.first rounds r rise).0,
      one_option,
    )

-- an offer that is taken whole shows whether one is fixed
pub same_offer : (t : Terms) (d : Delivery) (fixed counted : Bool) (items held : List Item)
    → option_map_or (λ answer. placed_fate t answer items) (cond fixed (Some whole) None) nothing
    ≡ option_map_or (λ answer. fate t answer d held) (cond counted (Some whole) None) nothing
    → fixed ≡ counted
same_offer t d fixed counted items held is = grind arith
