-- Running sums of lost frames.
use Rattle.std.proofs.Common.{◌≡◌, ◌∙◌, ℕ, zero, suc, ◌+◌, ◌-◌, ◌<◌, ◌≤◌, min, cond, List, [], ◌∷◌}
use Rattle.std.proofs.Common.{length, take, slice_get, Option, Some, None, option_map, nat_lt}
use Rattle.std.proofs.Common.{refl, arith, inl, inr}
use Rattle.std.specs.List.{sum_by}
use Rattle.std.specs.Option.{option_map_or}
use Rattle.std.proofs.lemmas.Bool.{cases_lt}
use Rattle.std.proofs.lemmas.Bool.Decides.{nat_tests, leb_tells}
use Rattle.std.proofs.lemmas.List.{take_all, drop_all, length-take}
use Rattle.std.proofs.lemmas.List.Sums.{sum_by-cons}
use Rattle.std.proofs.lemmas.Option.{slice_get_cases}
use Rattle.archive_terms.specs.Archive.{Entry, frame, loss_of_sync, production, seal}
use Rattle.archive_terms.specs.Selection.{by_quality}
use Rattle.archive_terms.specs.Continuity.{lost_of, lost_up_to, lost_between, gap}
use Rattle.archive_terms.specs.declared.limits.TheConstants.{GREATEST_LOST}
use Rattle.archive_index.specs.Walking.{lost_since, lost_told}
use Rattle.archive_index.specs.Rows.{rows_behind, passes, IsFirstFrom, row_before}
use Rattle.archive_index.specs.declared.row.Row.{Row}
use Rattle.archive_index.proofs.RowsOf.{places_above}

-- the running sums' difference, where the places may be in either order
pub gap_of_sums : (running : (a : List Entry) (p q : ℕ) → p ≤ q
    → lost_up_to a (p + 1) + lost_between a p q ≡ lost_up_to a (q + 1))
    → (entries : List Entry) (p q : ℕ)
    → min (lost_up_to entries (q + 1) - lost_up_to entries (p + 1)) GREATEST_LOST ≡ gap entries p q
gap_of_sums running entries p q = elim (leb_tells p q) [
  | inl up ↦ omega (arith, running entries p q up.1)
  | inr down ↦
      let none = drop_all (p + 1) (take (q + 1) entries)
      (omega (arith, length-take (q + 1) entries)) in
      rw none (omega (arith, running entries q p (omega arith)))
]

-- what is told of two sums
pub told_lost : (running : (a : List Entry) (p q : ℕ) → p ≤ q
    → lost_up_to a (p + 1) + lost_between a p q ≡ lost_up_to a (q + 1))
    → (entries : List Entry) (since sum : Option ℕ) (r : Row)
    → sum ≡ option_map (λ p. lost_up_to entries (p + 1)) since
    → r.lost ≡ lost_up_to entries (r.place + 1)
    → lost_since sum r.lost ≡ lost_told entries since r.place
told_lost running entries None sum r is through = rw is refl
told_lost running entries (Some p) sum r is through =
    rw (is, through) (gap_of_sums running entries p r.place)

-- ---- running sums

-- the sum at the last row before a place
abbrev pub last_lost : ℕ → ℕ → List Row → ℕ
last_lost n d [] = d
last_lost n d (r ∷ rows) = cond (nat_lt r.place n) (last_lost n r.lost rows) d

last_none : (n d : ℕ) (rows : List Row)
    → ((k : ℕ) (r : Row) → slice_get rows k ≡ Some r → n ≤ r.place) → last_lost n d rows ≡ d
last_none n d [] above = refl
last_none n d (r ∷ rows) above =
    let here : n ≤ r.place = above 0 r refl in grind (arith, nat_tests)

abbrev pub frame_rows : ℕ → ℕ → List Entry → List Row
frame_rows place lost entries = rows_behind (passes (by_quality 2)) place lost entries

lost_at : (place n lost m : ℕ) (entries : List Entry) → m ≡ place + n
    → last_lost m lost (frame_rows place lost entries) ≡ lost + sum_by lost_of (take n entries)
lost_at place zero lost m entries is =
    last_none m lost (frame_rows place lost entries) (λ k r at.
    let up = places_above (passes (by_quality 2)) place lost entries k r at in omega arith)
    ∙ omega arith
lost_at place (suc n) lost m [] is = omega arith
lost_at place (suc n) lost m (frame f ∷ entries) is =
    let rest = lost_at (place + 1) n (lost + f.lost) m entries (omega arith) in
    rw sum_by-cons (grind (arith, nat_tests, rest))
lost_at place (suc n) lost m (loss_of_sync l ∷ entries) is =
    let rest = lost_at (place + 1) n lost m entries (omega arith) in
    let none : lost + 0 ≡ lost = omega arith in
    rw (none, sum_by-cons) (rest ∙ omega arith)
lost_at place (suc n) lost m (production l ∷ entries) is =
    let rest = lost_at (place + 1) n lost m entries (omega arith) in
    let none : lost + 0 ≡ lost = omega arith in
    rw (none, sum_by-cons) (rest ∙ omega arith)
lost_at place (suc n) lost m (seal l ∷ entries) is =
    let rest = lost_at (place + 1) n lost m entries (omega arith) in
    let none : lost + 0 ≡ lost = omega arith in
    rw (none, sum_by-cons) (rest ∙ omega arith)

-- it is that of the row before the first one from a place on
pub last_is : (n d : ℕ) (rows : List Row) (i : ℕ) → i ≤ length rows → IsFirstFrom n 0 rows i
    → last_lost n d rows ≡ option_map_or (λ (r : Row). r.lost) (row_before rows i) d
last_is n d rows zero within first =
    last_none n d rows
    (λ k r is. let up = first.behind k r (omega arith) is in grind (arith, nat_tests))
last_is n d [] (suc i) within first = absurd (omega arith)
last_is n d (x ∷ rows) (suc zero) within first =
    let here = first.before 0 x (omega arith) refl in
    let rest = last_is n x.lost rows 0 (omega arith) (shifted first) in
    grind (arith, nat_tests, here, rest)
  where
    shifted : IsFirstFrom n 0 (x ∷ rows) 1 → IsFirstFrom n 0 rows 0
    shifted first = record {
      before = λ k q below at. absurd (omega arith);
      behind = λ k q above at. first.behind (suc k) q (omega arith) at;
    }
last_is n d (x ∷ rows) (suc (suc i)) within first =
    let here = first.before 0 x (omega arith) refl in
    let rest = last_is n x.lost rows (suc i) (omega arith) (record {
      before = λ k q below at. first.before (suc k) q (omega arith) at;
      behind = λ k q above at. first.behind (suc k) q (omega arith) at;
    }) in elim (slice_get_cases rows i).1 [
      | inl at ↦ grind (arith, nat_tests, here, rest, at.2)
      | inr past ↦ absurd (omega (arith, past.0))
    ]

-- what was lost before a place, by the row before the first one from there on
pub sum_before : (entries : List Entry) (n i : ℕ)
    → i ≤ length (frame_rows 0 0 entries) → IsFirstFrom n 0 (frame_rows 0 0 entries) i
    → lost_up_to entries n
    ≡ option_map_or (λ (r : Row). r.lost) (row_before (frame_rows 0 0 entries) i) 0
sum_before entries n i within first =
    omega (arith, lost_at 0 n 0 n entries (omega arith)) ∙ last_is n 0 (frame_rows 0 0 entries) i within first

-- a place that stands still at the greatest number is behind all entries
pub saturated : (entries : List Entry) (m n : ℕ) → n ≡ min m 18446744073709551615
    → length entries < 18446744073709551616 → lost_up_to entries n ≡ lost_up_to entries m
saturated entries m n is few = elim (cases_lt 18446744073709551615 m) [
  | inl above ↦
      let one = take_all n entries (omega arith) in
      let two = take_all m entries (omega arith) in
      rw (one, two) refl
  | inr below ↦ let same : n ≡ m = omega arith in rw same refl
]
