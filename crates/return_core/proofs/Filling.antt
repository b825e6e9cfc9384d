-- How many of some items go into a buffer.
use Rattle.std.proofs.Common.{◌≡◌, ℕ, ◌+◌, ◌<◌, ◌≤◌, Bool, true, false, cond, not, ◌&&◌, nat_eq}
use Rattle.std.proofs.Common.{Option, List, [], ◌∷◌, ◌++◌, length, take, drop, refl, arith}
use Rattle.std.proofs.Common.{append_assoc, inl, inr}
use Rattle.std.specs.List.{list_any}
use Rattle.std.proofs.lemmas.Bool.{cases_lt, both_ways, not-true, not-false}
use Rattle.std.proofs.lemmas.List.{length-append, length-map, map-append, take-append-drop}
use Rattle.std.proofs.lemmas.List.{take-append-le, take-map}
use Rattle.std.proofs.Math.Seq.{take-append_seam}
use Rattle.std.proofs.lemmas.List.Elements.{filter_map-append}
use Rattle.std.specs.Option.{option_or}
use Rattle.std.proofs.lemmas.List.Folds.{list_any-append}
use Rattle.std.proofs.lemmas.List.Sums.{sum_by-append, fold-append}
use Rattle.archive_terms.specs.Delivery.{Item, is_complete, buffer_length}
use Rattle.archive_terms.specs.Continuity.{last_frame, frame_place}
use Rattle.archive_terms.specs.Placed.{ToldItem, items_of}
use Rattle.frame_select.specs.Item as select
use Rattle.frame_select.specs.declared.item.Item as code
use Rattle.return_core.specs.Holding.{Holding, takes_more, with_put, fitting, filled_with}

-- a test of items is one of what they are told as
pub any_item : (p : Item → Bool) (xs : List code.Item)
    → list_any p (items_of (select.items_of xs)) ≡ list_any (λ x. p (select.item_of x).0) xs
any_item p [] = refl
any_item p (x ∷ xs) = cc (any_item p xs)

pub last_frame-append : (before : Option ℕ) (xs ys : List Item)
    → last_frame before (xs ++ ys) ≡ last_frame (last_frame before xs) ys
last_frame-append before [] ys = refl
last_frame-append before (x ∷ xs) ys = last_frame-append (option_or (frame_place x) before) xs ys

-- the moment of the first of items that are put one behind another
moment : (told xs : List ToldItem) (x : ToldItem) (now since : ℕ) →
    let all : List ToldItem = told ++ (xs ++ x ∷ []) in
    cond (nat_eq (length (told ++ xs)) 0 && not (nat_eq (length all) 0)) now
    (cond (nat_eq (length told) 0 && not (nat_eq (length (told ++ xs)) 0)) now since)
    ≡ cond (nat_eq (length told) 0 && not (nat_eq (length all) 0)) now since
moment told xs x now since = grind (arith, length-append)

pub with_put-more : (h : Holding) (xs : List ToldItem) (x : ToldItem) (now : ℕ)
    → with_put (with_put h xs now) (x ∷ []) now ≡ with_put h (xs ++ x ∷ []) now
with_put-more h xs x now =
    simp (append_assoc, moment, map-append, filter_map-append, fold-append, last_frame-append)

-- the law of what a buffer takes
pub record TakesWhatFits : Type 0 where
  pub within : (size : ℕ) (items : List Item) → buffer_length size items ≤ length items
  pub passes : (size : ℕ) (items : List Item) (j : ℕ) → j < buffer_length size items
      → is_complete size (take j items) ≡ false
  pub greatest : (size : ℕ) (items : List Item) → buffer_length size items < length items
      → is_complete size (take (buffer_length size items) items) ≡ true

-- more items leave a buffer complete
complete_more : (size : ℕ) (xs ys : List Item) → is_complete size xs ≡ true
    → is_complete size (xs ++ ys) ≡ true
complete_more size xs ys is = grind (arith, length-append, sum_by-append, list_any-append)

-- behind items that aren't complete a further one goes in, and behind complete ones none
one_more : (size : ℕ) (xs ys : List Item) → TakesWhatFits → is_complete size xs ≡ false
    → 0 < length ys → length xs < buffer_length size (xs ++ ys)
one_more size xs ys law takes some = elim (cases_lt (length xs) n) [
  | inl more ↦ more
  | inr few ↦
      let front = law.greatest size (xs ++ ys) (omega (arith, length-append {A = Item})) in
      let full = complete_more size (take n xs) (drop n xs) (rw take-append-le at front) in
      absurd (both_ways _ takes (rw take-append-drop at full))
]
  where
    n : ℕ
    n = buffer_length size (xs ++ ys)

no_more : (size : ℕ) (xs ys : List Item) → TakesWhatFits → is_complete size xs ≡ true
    → buffer_length size (xs ++ ys) ≤ length xs
no_more size xs ys law full = elim (cases_lt (length xs) (buffer_length size (xs ++ ys))) [
  | inl more ↦
      let takes = law.passes size (xs ++ ys) (length xs) more in
      absurd (both_ways _ (rw take-append_seam at takes) full)
  | inr few ↦ few
]

-- items in parts, and how many they are
ruleset joined = (map-append, append_assoc, length-map, length-append)

-- some items of which the first were put: behind those one more goes in where the buffer takes more
pub goes_in : (h : Holding) (items : List ToldItem) (done rest : List code.Item) (x : code.Item)
    (now : ℕ) (state : Holding) → TakesWhatFits
    → select.items_of (done ++ x ∷ rest) ≡ items → state ≡ with_put h (select.items_of done) now
    → takes_more state ≡ true → length (done ++ x ∷ []) ≤ fitting h items
goes_in h items done rest x now state law all put takes =
    let more = one_more h.size (items_of (h.told ++ select.items_of done))
    (items_of (select.items_of (x ∷ rest))) law (not-true _ (rw put at takes)) (omega arith) in
    rw (← all) (simp joined (omega (arith, simp joined at more)))

-- and they are what goes in, where nothing is left or the buffer takes no more
pub is_filled : (h : Holding) (items : List ToldItem) (done rest : List code.Item) (now : ℕ)
    (state : Holding) → TakesWhatFits
    → select.items_of (done ++ rest) ≡ items → state ≡ with_put h (select.items_of done) now
    → length done ≤ fitting h items → (0 < length rest → takes_more state ≡ false)
    → (state ≡ filled_with h items now)
    × (nat_eq (length rest) 0 ≡ nat_eq (fitting h items) (length items))
is_filled h items done rest now state law all put fit stops = (
  rw (count, ← all, take-map, take-append_seam) put,
  grind (arith, count, long),
)
  where
    long : length items ≡ length done + length rest
    long = rw (← all) (simp joined)

    most : fitting h items ≤ length done
    most = rw (← all) (elim (cases_lt 0 (length rest)) [
      | inl some ↦
          let none = no_more h.size (items_of (h.told ++ select.items_of done))
          (items_of (select.items_of rest)) law (not-false _ (rw put at (stops some))) in
          simp joined (omega (arith, simp joined at none))
      | inr none ↦
          let within = law.within h.size
          (items_of h.told ++ items_of (select.items_of (done ++ rest))) in
          simp joined (omega (arith, simp joined at within))
    ])

    count : fitting h items ≡ length done
    count = omega (arith, most, fit)
