-- Items cut into buffers: that they are those items, that each is a buffer, and that the first is
-- what a buffer takes.
use Rattle.std.proofs.Common.{◌≡◌, ℕ, zero, suc, ◌+◌, ◌-◌, ◌<◌, ◌≤◌, Bool, true, false, cond, List}
use Rattle.std.proofs.Common.{[], ◌∷◌, ◌++◌, length, take, drop, get_or, refl, ap, ◌∙◌, arith, inl}
use Rattle.std.proofs.Common.{inr}
use Rattle.std.specs.List.{flat_map, All}
use Rattle.std.proofs.lemmas.List.{append_assoc, take-append-le, take_all, length_push}
use Rattle.std.proofs.lemmas.List.Elements.{All-append}
use Rattle.std.proofs.lemmas.Bool.{cases_lt}
use Rattle.archive_terms.specs.Delivery.{Item, is_complete, buffer_length, cut, cut_onto}
use Rattle.archive_terms.proofs.Buffers.{InLimits, nothing_complete, takes_one, buffer_length-le}
use Rattle.archive_terms.proofs.Buffers.{buffer_length-open, buffer_length-stops}
use Rattle.archive_terms.proofs.Histories.{one_all}

abbrev pub join : List (List Item) → List Item
join buffers = flat_map (λ items. items) buffers

held_alone : (size : ℕ) (held : List Item) (x : Item)
    → cut_onto size [] (held ++ x ∷ []) ≡ (held ++ x ∷ []) ∷ []
held_alone size [] x = refl
held_alone size (y ∷ held) x = refl

pub join-cut_onto : (size : ℕ) (items held : List Item)
    → join (cut_onto size items held) ≡ held ++ items
join-cut_onto size [] [] = refl
join-cut_onto size [] (x ∷ held) = refl
join-cut_onto size (x ∷ items) held =
    on_test (is_complete size (held ++ x ∷ [])) (join-cut_onto size items [])
    (join-cut_onto size items (held ++ x ∷ []))
  where
    on_test : (b : Bool) → join (cut_onto size items []) ≡ items
        → join (cut_onto size items (held ++ x ∷ [])) ≡ (held ++ x ∷ []) ++ items
        → join (cond b ((held ++ x ∷ []) ∷ cut_onto size items [])
        (cut_onto size items (held ++ x ∷ []))) ≡ held ++ x ∷ items
    on_test true next more = ap (λ xs. (held ++ x ∷ []) ++ xs) next
        ∙ append_assoc held (x ∷ []) items
    on_test false next more = more ∙ append_assoc held (x ∷ []) items

-- neither the items nor a prefix of them is complete
pub record Open (size : ℕ) (items : List Item) : Type 0 where
  pub at : (i : ℕ) → i ≤ length items → is_complete size (take i items) ≡ false

pub open_nothing : (size : ℕ) → 0 < size → Open size []
open_nothing size some = record {
  at =
      λ i within. let none : i ≡ 0 = omega arith in ap (λ i. is_complete size (take i [])) none
      ∙ nothing_complete size some;
}

-- one more item on open items
limits-push : (size : ℕ) (held : List Item) (x : Item) → Open size held
    → InLimits size (held ++ x ∷ [])
limits-push size held x o = record {
  open_before = λ j below.
      let within : j ≤ length held = omega (arith, length_push held x) in
      ap (is_complete size) (take-append-le j held (x ∷ []) within) ∙ o.at j within;
}

open-push : (size : ℕ) (held : List Item) (x : Item) → Open size held
    → is_complete size (held ++ x ∷ []) ≡ false → Open size (held ++ x ∷ [])
open-push size held x o still = record {
  at = λ i within. elim (cases_lt i (length (held ++ x ∷ []))) [
    | inl before ↦ (limits-push size held x o).open_before i before
    | inr all ↦ ap (is_complete size) (take_all i (held ++ x ∷ []) all) ∙ still
  ];
}

-- a cut buffer
abbrev pub IsCut : ℕ → List Item → Type 0
IsCut size items = InLimits size items × (0 < length items)

pub all_cut : (size : ℕ) (items held : List Item) → 0 < size → Open size held
    → All (IsCut size) (cut_onto size items held)
all_cut size [] [] some o = λ k d below. absurd (omega arith)
all_cut size [] (x ∷ held) some o =
    one_all (IsCut size) (x ∷ held) (
      record { open_before = λ j below. o.at j (omega arith) },
      omega arith,
    )
all_cut size (x ∷ items) held some o =
    on_test (is_complete size (held ++ x ∷ [])) refl
    (all_cut size items [] some (open_nothing size some))
    (λ o. all_cut size items (held ++ x ∷ []) some o)
  where
    on_test : (b : Bool) → is_complete size (held ++ x ∷ []) ≡ b
        → All (IsCut size) (cut_onto size items [])
        → (Open size (held ++ x ∷ []) → All (IsCut size) (cut_onto size items (held ++ x ∷ [])))
        → All (IsCut size) (cond b ((held ++ x ∷ []) ∷ cut_onto size items [])
        (cut_onto size items (held ++ x ∷ [])))
    on_test true is next more =
        All-append (IsCut size) ((held ++ x ∷ []) ∷ []) (cut_onto size items [])
        (one_all (IsCut size) (held ++ x ∷ []) (
          limits-push size held x o,
          omega (arith, length_push held x),
        ))
        next
    on_test false is next more = more (open-push size held x o is)

pub complete_before_last : (size : ℕ) (items held : List Item) (k : ℕ)
    → k + 1 < length (cut_onto size items held)
    → is_complete size (get_or (cut_onto size items held) k []) ≡ true
complete_before_last size [] [] k more = absurd (omega arith)
complete_before_last size [] (x ∷ held) k more = absurd (omega arith)
complete_before_last size (x ∷ items) held k more =
    on_test (is_complete size (held ++ x ∷ [])) refl (complete_before_last size items [])
    (complete_before_last size items (held ++ x ∷ [])) k more
  where
    Fact : List (List Item) → Type 0
    Fact = λ buffers. (k : ℕ) → k + 1 < length buffers
        → is_complete size (get_or buffers k []) ≡ true

    on_test : (b : Bool) → is_complete size (held ++ x ∷ []) ≡ b → Fact (cut_onto size items [])
        → Fact (cut_onto size items (held ++ x ∷ [])) → (k : ℕ)
        → k + 1 < length (cond b ((held ++ x ∷ []) ∷ cut_onto size items [])
        (cut_onto size items (held ++ x ∷ [])))
        → is_complete size (get_or (cond b ((held ++ x ∷ []) ∷ cut_onto size items [])
        (cut_onto size items (held ++ x ∷ []))) k []) ≡ true
    on_test true is next rest zero more = is
    on_test true is next rest (suc k) more = next k (omega arith)
    on_test false is next rest k more = rest k more

-- the first buffer is what a buffer takes
cut-first : (size : ℕ) (xs held : List Item) (x : Item) (j : ℕ) → j ≤ length xs
    → ((i : ℕ) → i < j → is_complete size (held ++ x ∷ take i xs) ≡ false)
    → (j < length xs → is_complete size (held ++ x ∷ take j xs) ≡ true)
    → cut_onto size (x ∷ xs) held ≡ (held ++ x ∷ take j xs) ∷ cut_onto size (drop j xs) []
cut-first size [] held x (suc j) within opens stops = absurd (omega arith)
cut-first size [] held x zero within opens stops = on_test (is_complete size (held ++ x ∷ []))
  where
    on_test : (b : Bool)
        → cond b ((held ++ x ∷ []) ∷ []) (cut_onto size [] (held ++ x ∷ [])) ≡ (held ++ x ∷ []) ∷ []
    on_test true = refl
    on_test false = held_alone size held x
cut-first size (y ∷ ys) held x zero within opens stops =
    ap (λ b. cond b ((held ++ x ∷ []) ∷ cut_onto size (y ∷ ys) [])
    (cut_onto size (y ∷ ys) (held ++ x ∷ []))) (stops (omega arith))
cut-first size (y ∷ ys) held x (suc j) within opens stops =
    ap (λ b. cond b ((held ++ x ∷ []) ∷ cut_onto size (y ∷ ys) [])
    (cut_onto size (y ∷ ys) (held ++ x ∷ []))) (opens 0 (omega arith))
    ∙ cut-first size ys (held ++ x ∷ []) y j (omega arith)
    (λ i below. ap (is_complete size) (append_assoc held (x ∷ []) (y ∷ take i ys))
    ∙ opens (suc i) (omega arith))
    (λ more. ap (is_complete size) (append_assoc held (x ∷ []) (y ∷ take j ys))
    ∙ stops (omega arith))
    ∙ ap (λ b. b ∷ cut_onto size (drop j ys) []) (append_assoc held (x ∷ []) (y ∷ take j ys))

pub cut-step : (size : ℕ) (items : List Item) → 0 < size → 0 < length items
    → cut size items ≡ take (buffer_length size items) items
    ∷ cut size (drop (buffer_length size items) items)
cut-step size [] some more = absurd (omega arith)
cut-step size (x ∷ xs) some more =
    let m : ℕ = buffer_length size (x ∷ xs) in
    let at_least : 0 < m = takes_one size (x ∷ xs) some (omega arith) in
    let split : suc (m - 1) ≡ m = omega arith in
    cut-first size xs [] x (m - 1) (omega (arith, buffer_length-le size (x ∷ xs)))
    (λ i below. buffer_length-open size (x ∷ xs) (suc i) (omega arith))
    (λ left. ap (λ n. is_complete size (take n (x ∷ xs))) split
    ∙ buffer_length-stops size (x ∷ xs) (omega arith))
    ∙ ap (λ n. take n (x ∷ xs) ∷ cut size (drop n (x ∷ xs))) split
