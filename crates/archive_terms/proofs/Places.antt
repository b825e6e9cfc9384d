-- Places that rise.
use Rattle.std.proofs.Common.{◌≡◌, ℕ, zero, suc, ◌+◌, ◌<◌, ◌≤◌, Bool, true, false, cond, nat_lt}
use Rattle.std.proofs.Common.{List, [], ◌∷◌, ◌++◌, map, length, slice_index, arith, subst, zero-add}
use Rattle.std.proofs.Common.{refl}
use Rattle.std.specs.List.{filter, list_all, enumerate_from}
use Rattle.std.proofs.lemmas.Bool.{and_from, lt-ltb}
use Rattle.std.specs.List.Sorted.{IsStrictlyIncreasing}
use Rattle.archive_terms.specs.Archive.{Entry, frame, loss_of_sync, production, seal}
use Rattle.archive_terms.specs.Selection.{Selection, is_picked, picked}
use Rattle.archive_terms.specs.Delivery.{archived, archived_items}
use Rattle.archive_terms.specs.Continuity.{frame_places}

-- the places lie from one on and below another, each above the one before
abbrev pub RisesTo : ℕ → ℕ → List ℕ → Type 0
RisesTo from to [] = from ≤ to
RisesTo from to (place ∷ places) = (from ≤ place) × RisesTo (suc place) to places

pub rises_from_less : (less from to : ℕ) (places : List ℕ) → less ≤ from → RisesTo from to places
    → RisesTo less to places
rises_from_less less from to [] below rise = omega arith
rises_from_less less from to (place ∷ places) below rise =
    (let h : from ≤ place = rise.0 in omega arith, rise.1)

pub rises-append : (from mid to : ℕ) (xs ys : List ℕ) → RisesTo from mid xs → RisesTo mid to ys
    → RisesTo from to (xs ++ ys)
rises-append from mid to [] ys front back = rises_from_less from mid to ys front back
rises-append from mid to (place ∷ xs) ys front back =
    (front.0, rises-append (suc place) mid to xs ys front.1 back)

-- a rising list is cut at a place
pub rises_apart : (from to : ℕ) (xs ys : List ℕ) → RisesTo from to (xs ++ ys)
    → (mid : ℕ) × RisesTo from mid xs × RisesTo mid to ys
rises_apart from to [] ys rise = (from, omega arith, rise)
rises_apart from to (place ∷ xs) ys rise =
    let rest : (mid : ℕ) × RisesTo (suc place) mid xs × RisesTo mid to ys =
    rises_apart (suc place) to xs ys rise.1 in
    (rest.0, (rise.0, rest.1), rest.2)

pub rises_to_end : (from to : ℕ) (places : List ℕ) → RisesTo from to places → from ≤ to
rises_to_end from to [] rise = rise
rises_to_end from to (p ∷ places) rise =
    let h : suc p ≤ to = rises_to_end (suc p) to places rise.1 in let k : from ≤ p = rise.0 in
    omega arith

-- what rises to a place lies below it, and below each later one
pub all_below : (from to bound : ℕ) (places : List ℕ) → RisesTo from to places → to ≤ bound
    → list_all (λ place. nat_lt place bound) places ≡ true
all_below from to bound [] rise within = refl
all_below from to bound (p ∷ places) rise within =
    and_from (nat_lt p bound) (list_all (λ place. nat_lt place bound) places)
    (lt-ltb p bound (let h : suc p ≤ to = rises_to_end (suc p) to places rise.1 in omega arith))
    (all_below (suc p) to bound places rise.1 within)

abbrev pub places_of : List (ℕ × Entry) → List ℕ
places_of entries = map (λ x. x.0) entries

-- the frames among entries that rise
pub frames_rise : (from to : ℕ) (entries : List (ℕ × Entry)) → RisesTo from to (places_of entries)
    → RisesTo from to (frame_places (archived_items entries))
frames_rise from to [] rise = rise
frames_rise from to (x ∷ entries) rise = of_kind x.0 x.1 rise.0
    (frames_rise (suc x.0) to entries rise.1)
  where
    of_kind : (place : ℕ) (entry : Entry) → from ≤ place
        → RisesTo (suc place) to (frame_places (archived_items entries))
        → RisesTo from to (frame_places (archived place entry ∷ archived_items entries))
    of_kind place (frame f) above rest = (above, rest)
    of_kind place (loss_of_sync l) above rest =
        rises_from_less from (suc place) to _ (omega arith) rest
    of_kind place (production p) above rest =
        rises_from_less from (suc place) to _ (omega arith) rest
    of_kind place (seal time) above rest = rises_from_less from (suc place) to _ (omega arith) rest

-- what a filter leaves of numbered entries rises
pub filter_rises : (p : ℕ × Entry → Bool) (n : ℕ) (entries : List Entry)
    → RisesTo n (n + length entries) (places_of (filter p (enumerate_from n entries)))
filter_rises p n [] = omega arith
filter_rises p n (x ∷ entries) = on_test (p (n, x)) (filter_rises p (n + 1) entries)
  where
    rest : List (ℕ × Entry)
    rest = filter p (enumerate_from (n + 1) entries)

    end : n + 1 + length entries ≡ n + length (x ∷ entries)
    end = omega arith

    on_test : (b : Bool) → RisesTo (n + 1) (n + 1 + length entries) (places_of rest)
        → RisesTo n (n + length (x ∷ entries)) (places_of (cond b ((n, x) ∷ rest) rest))
    on_test true rise = (
      omega arith,
      subst (λ to. RisesTo (suc n) to (places_of rest)) end
          (rises_from_less (suc n) (n + 1) _ (places_of rest) (omega arith) rise),
    )
    on_test false rise =
        rises_from_less n (n + 1) _ (places_of rest) (omega arith)
        (subst (λ to. RisesTo (n + 1) to (places_of rest)) end rise)

pub picked_rises : (a : List Entry) (s : Selection) → RisesTo 0 (length a) (places_of (picked a s))
picked_rises a s =
    subst (λ to. RisesTo 0 to (places_of (picked a s))) (zero-add (length a))
    (filter_rises (λ x. is_picked s a x.0 x.1) 0 a)

pub increasing_from_rises : (from to : ℕ) (places : List ℕ) → RisesTo from to places
    → IsStrictlyIncreasing places
increasing_from_rises from to [] rise k more = absurd (omega arith)
increasing_from_rises from to (p ∷ []) rise k more = absurd (omega arith)
increasing_from_rises from to (p ∷ q ∷ places) rise zero more = let h : suc p ≤ q = rise.1.0 in
    omega arith
increasing_from_rises from to (p ∷ q ∷ places) rise (suc k) more =
    let next : suc (k + 1) ≡ suc k + 1 = omega arith in
    subst (λ m. slice_index (q ∷ places) k < slice_index (p ∷ q ∷ places) m) next
    (increasing_from_rises (suc p) to (q ∷ places) rise.1 k (omega arith))
