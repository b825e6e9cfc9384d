-- The picked entries from a place on, entry by entry.
use Rattle.std.proofs.Common.{◌≡◌, ℕ, zero, suc, ◌+◌, ◌<◌, ◌≤◌, Bool, true, cond, nat_le, List, []}
use Rattle.std.proofs.Common.{Option, ◌∷◌, length, drop, slice_get, Some, None, refl}
use Rattle.std.proofs.Common.{◌∙◌, inl, inr, arith, drop-cons, add-one}
use Rattle.std.specs.List.{filter, enumerate_from}
use Rattle.std.proofs.lemmas.List.{drop_all, length-map}
use Rattle.std.proofs.lemmas.Bool.{cases_Bool}
use Rattle.std.proofs.lemmas.Bool.Decides.{nat_tests}
use Rattle.std.proofs.lemmas.Option.{slice_get_cases, slice_get_within, get_or_from_slice_get}
use Rattle.std.proofs.lemmas.Option.{slice_get-map}
use Rattle.archive_terms.specs.Archive.{Entry}
use Rattle.archive_terms.specs.Selection.{Selection, is_picked}
use Rattle.archive_terms.specs.Glimpse.{picked_from}
use Rattle.record_form.specs.declared.entry.Entry as forms
use Rattle.record_form.specs.Entry.{entry_of, entries_of}
use Rattle.archive_index.specs.Look.{is_told_of}
use Rattle.archive_index.specs.Next.{next_picked}

-- what stands from a place on
abbrev pub from_place : {X : Type 0} → ℕ → List (ℕ × X) → List (ℕ × X)
from_place i xs = filter (λ x. nat_le i x.0) xs

-- all stand from a place on that is at or below the first
all_from : {X : Type 0} → (p : ℕ × X → Bool) (i m : ℕ) (xs : List X) → i ≤ m
    → from_place i (filter p (enumerate_from m xs)) ≡ filter p (enumerate_from m xs)
all_from p i m [] late = refl
all_from p i m (x ∷ xs) late = grind (arith, nat_tests, all_from p i (m + 1) xs (omega arith))

-- what stands from a place on are the passing elements there and behind
onward : {X : Type 0} → (p : ℕ × X → Bool) (i m k : ℕ) (xs : List X) → i ≡ m + k
    → from_place i (filter p (enumerate_from m xs)) ≡ filter p (enumerate_from i (drop k xs))
onward p i m zero xs at = let same : m ≡ i = omega arith in cc (all_from p i m xs (omega arith))
onward p i m (suc k) [] at = refl
onward p i m (suc k) (x ∷ xs) at =
    grind (arith, nat_tests, onward p i (m + 1) k xs (omega arith))

pub picked_onward : (entries : List Entry) (s : Selection) (place : ℕ)
    → picked_from entries s place
    ≡ filter (λ x. is_picked s entries x.0 x.1) (enumerate_from place (drop place entries))
picked_onward entries s place = onward _ place 0 place entries (omega arith)

pub picked_from-end : (entries : List Entry) (s : Selection) (place : ℕ) → length entries ≤ place
    → picked_from entries s place ≡ []
picked_from-end entries s place past = rw (picked_onward, drop_all) refl

-- an entry stands before what is picked from the next place on, where it is picked
pub picked_step : (entries : List Entry) (s : Selection) (place : ℕ) (e : Entry)
    → slice_get entries place ≡ Some e →
    let later : List (ℕ × Entry) = picked_from entries s (place + 1) in
    picked_from entries s place ≡ cond (is_picked s entries place e) ((place, e) ∷ later) later
picked_step entries s place e is = rw (
  picked_onward entries s place,
  drop-cons entries place e (slice_get_within entries place e is),
  get_or_from_slice_get entries place e e is,
  picked_onward entries s (place + 1),
  add-one,
) refl

-- ---- the next one

pub next_none : (entries : List Entry) (s : Selection) (place : ℕ) → length entries ≤ place
    → next_picked entries s place ≡ None
next_none entries s place past = rw picked_from-end refl

-- the next picked entry: its place and what follows it
record IsNext (entries : List Entry) (s : Selection) (from place : ℕ) : Type 0 where
  pub entry : Entry
  pub there : slice_get entries place ≡ Some entry
  pub picked : is_picked s entries place entry ≡ true
  pub first : picked_from entries s from ≡ (place, entry) ∷ picked_from entries s (place + 1)

is_next : (steps : ℕ) (entries : List Entry) (s : Selection) (from place : ℕ)
    → length entries ≤ from + steps
    → Some place ≡ next_picked entries s from → IsNext entries s from place
is_next zero entries s from place all next =
    let none = rw (next_none entries s from (omega arith)) at next in cc
is_next (suc steps) entries s from place all next = elim (slice_get_cases entries from).1 [
  | inr past ↦ let none = rw (next_none entries s from past.0) at next in cc
  | inl at ↦
      let step = picked_step entries s from at.0 at.2 in
      elim (cases_Bool (is_picked s entries from at.0)) [
        | inl picked ↦
            let here : from ≡ place = let two = rw (step, picked) at next in cc in
            rw (← here) (record {
              entry = at.0;
              there = at.2;
              picked = picked;
              first = rw picked at step;
            })
        | inr passed ↦
            let same = rw passed at step in
            let rest = is_next steps entries s (from + 1) place (omega arith) (rw same at next) in
            record {
              entry = rest.entry;
              there = rest.there;
              picked = rest.picked;
              first = same ∙ rest.first;
            }
      ]
]

-- ---- the next one among the program's entries

at : (entries : List forms.Entry) (s : Selection) (from place : ℕ) (found : Option ℕ)
    → found ≡ next_picked (entries_of entries) s from → found ≡ Some place
    → IsNext (entries_of entries) s from place
at entries s from place found next is =
    is_next (length (entries_of entries)) _ s from place (omega arith) (rw is at next)

pub within : (entries : List forms.Entry) (s : Selection) (from place : ℕ) (found : Option ℕ)
    → found ≡ next_picked (entries_of entries) s from → found ≡ Some place → place < length entries
within entries s from place found next is =
    let n = at entries s from place found next is in
    rw length-map at (slice_get_within (entries_of entries) place n.entry n.there)

told_where_picked : (entries : List Entry) (s : Selection) (place : ℕ) (e : Entry)
    → is_picked s entries place e ≡ true → is_told_of e ≡ true
told_where_picked entries s place e picked = grind arith

-- it is told, and what is picked begins with it
pub next_is : (entries : List forms.Entry) (s : Selection) (from place : ℕ) (found : Option ℕ)
    (x : forms.Entry)
    → found ≡ next_picked (entries_of entries) s from → found ≡ Some place
    → slice_get entries place ≡ Some x
    → (is_told_of (entry_of x) ≡ true) × (picked_from (entries_of entries) s from
    ≡ (place, entry_of x) ∷ picked_from (entries_of entries) s (place + 1))
    × (slice_get (entries_of entries) place ≡ Some (entry_of x))
next_is entries s from place found x next is there =
    let n = at entries s from place found next is in
    let same : n.entry ≡ entry_of x = let two = rw (slice_get-map, there) at n.there in cc in
    rw (← same) (told_where_picked _ s place n.entry n.picked, n.first, n.there)
