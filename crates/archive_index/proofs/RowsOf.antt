-- The rows of entries that fit: one entry more, their order, and what a selection wants of them.
use Rattle.std.proofs.Common.{◌≡◌, ℕ, zero, suc, ◌+◌, ◌<◌, ◌≤◌, Bool, true, false, cond}
use Rattle.std.proofs.Common.{List, [], ◌∷◌, ◌++◌, length, take, slice_get, Some, None, refl}
use Rattle.std.proofs.Common.{◌⊎◌, inl, inr, ◌&&◌, nat_le, nat_lt, map, ap, ◌∙◌, arith, subst}
use Rattle.std.proofs.Common.{Option, is_some}
use Rattle.std.specs.List.{filter, list_all, enumerate_from, sum_by}
use Rattle.std.specs.Option.{option_or, unwrap_or, option_map_or}
use Rattle.std.proofs.lemmas.Bool.{cases_Bool, and_parts}
use Rattle.std.proofs.lemmas.Bool.Decides.{nat_tests}
use Rattle.std.proofs.lemmas.List.Sums.{sum_by-cons}
use Rattle.cds_time.specs.Moment.{moment_of}
use Rattle.archive_terms.specs.Archive.{Entry, frame, loss_of_sync, production, seal, frame_time}
use Rattle.archive_terms.specs.Archive.{is_valid, is_storable, is_ordered, may_precede, is_from}
use Rattle.archive_terms.specs.Archive.{IsArchive, is_moment, Frame, is_short, is_above, seal_time}
use Rattle.cds_time.specs.declared.cds.TheConstants.{MOMENT_END}
use Rattle.cds_time.specs.declared.cds.Cds.{Cds}
use Rattle.archive_terms.specs.Selection.{Selection, Filter, fits, admits, is_notice}
use Rattle.archive_terms.specs.Selection.{is_between}
use Rattle.archive_terms.specs.Continuity.{lost_of, lost_up_to}
use Rattle.archive_index.specs.Rows.{IsRising, moment_in, rows_behind, rows_of, passes}
use Rattle.archive_index.specs.Rows.{is_wanted, row_at, is_seal}
use Rattle.archive_index.specs.declared.row.Row.{Row}

-- ---- one entry more

pub rows-push : (fits : Entry → Bool) (place lost : ℕ) (entries : List Entry) (e : Entry)
    → rows_behind fits place lost (entries ++ e ∷ [])
    ≡ rows_behind fits place lost entries ++ cond (fits e)
    (row_at (place + length entries) (lost + sum_by lost_of entries + lost_of e) e ∷ []) []
rows-push fits place lost [] e = grind arith
rows-push fits place lost (x ∷ entries) e =
    let rest = rows-push fits (place + 1) (lost + lost_of x) entries e in
    let here : place + 1 + length entries ≡ place + length (x ∷ entries) = omega arith in
    let sums : lost + lost_of x + sum_by lost_of entries ≡ lost + sum_by lost_of (x ∷ entries) =
    rw sum_by-cons (omega arith) in
    elim (cases_Bool (fits x)) [
      | inl is_so ↦ rw (is_so, rest, here, sums) refl
      | inr isnt ↦ rw (isnt, rest, here, sums) refl
    ]

-- ---- their order

-- entries that fit have moments that don't fall
pub record AreInOrder (fits : Entry → Bool) : Type 0 where
  pub order : (a b : Entry) → fits a ≡ true → fits b ≡ true → is_valid b ≡ true
      → may_precede a b ≡ true → moment_in a ≤ moment_in b

cons_cases : (x r : Row) (rest : List Row) (k : ℕ) → slice_get (x ∷ rest) k ≡ Some r
    → (x ≡ r) ⊎ ((j : ℕ) × (suc j ≡ k) × (slice_get rest j ≡ Some r))
cons_cases x r rest zero is = inl (cc)
cons_cases x r rest (suc k) is = inr (k, refl, is)

pub places_above : (fits : Entry → Bool) (place lost : ℕ) (entries : List Entry) (k : ℕ) (r : Row)
    → slice_get (rows_behind fits place lost entries) k ≡ Some r → place ≤ r.place
places_above fits place lost [] k r is = cc
places_above fits place lost (x ∷ entries) k r is = elim (cases_Bool (fits x)) [
  | inl is_so ↦ elim (cons_cases (row_at place (lost + lost_of x) x) r _ k (rw is_so at is)) [
    | inl same ↦ rw (← same) (omega arith)
    | inr more ↦
        let below = places_above fits (place + 1) (lost + lost_of x) entries more.0 r more.2 in
        omega arith
  ]
  | inr isnt ↦
      let below = places_above fits (place + 1) (lost + lost_of x) entries k r (rw isnt at is) in
      omega arith
]

moments_above : (fits : Entry → Bool) → AreInOrder fits → (e : Entry) → fits e ≡ true
    → (place lost : ℕ) (entries : List Entry) (k : ℕ) (r : Row)
    → list_all is_storable entries ≡ true → list_all (may_precede e) entries ≡ true
    → slice_get (rows_behind fits place lost entries) k ≡ Some r → moment_in e ≤ r.moment
moments_above fits ordered e fit place lost [] k r storable later is = cc
moments_above fits ordered e fit place lost (x ∷ entries) k r storable later is =
    let s = and_parts (is_storable x) (list_all is_storable entries) storable in
    let l = and_parts (may_precede e x) (list_all (may_precede e) entries) later in
    elim (cases_Bool (fits x)) [
      | inl is_so ↦ elim (cons_cases (row_at place (lost + lost_of x) x) r _ k (rw is_so at is)) [
        | inl same ↦
            let valid = and_parts (is_valid x) (is_short x) s.0 in
            rw (← same) (ordered.order e x fit is_so valid.0 l.0)
        | inr more ↦
            moments_above fits ordered e fit (place + 1) (lost + lost_of x) entries more.0 r s.1
            l.1 more.2
      ]
      | inr isnt ↦
          moments_above fits ordered e fit (place + 1) (lost + lost_of x) entries k r s.1 l.1
          (rw isnt at is)
    ]

pub rows_rise : (fits : Entry → Bool) → AreInOrder fits → (place lost : ℕ) (entries : List Entry)
    → list_all is_storable entries ≡ true → is_ordered entries ≡ true
    → IsRising (rows_behind fits place lost entries)
rows_rise fits ordered place lost [] storable order i j r q below ri qj = cc
rows_rise fits ordered place lost (x ∷ entries) storable order i j r q below ri qj =
    let s = and_parts (is_storable x) (list_all is_storable entries) storable in
    let o = and_parts (list_all (may_precede x) entries) (is_ordered entries) order in
    let rest = rows_rise fits ordered (place + 1) (lost + lost_of x) entries s.1 o.1 in
    elim (cases_Bool (fits x)) [
      | inl is_so ↦ elim (cons_cases (row_at place (lost + lost_of x) x) q _ j (rw is_so at qj)) [
        | inl last ↦ elim (cons_cases (row_at place (lost + lost_of x) x) r _ i (rw is_so at ri)) [
          | inl same ↦ only j below (rw is_so at qj) last
          | inr more ↦ only j below (rw is_so at qj) last
        ]
        | inr late ↦ elim (cons_cases (row_at place (lost + lost_of x) x) r _ i (rw is_so at ri)) [
          | inl same ↦
              let up = places_above fits (place + 1) (lost + lost_of x) entries late.0 q late.2 in
              let later = moments_above fits ordered x is_so (place + 1) (lost + lost_of x)
              entries late.0 q s.1 o.0 late.2 in
              rw (← same) (omega arith, later)
          | inr more ↦ rest more.0 late.0 r q (omega (arith, more.1, late.1)) more.2 late.2
        ]
      ]
      | inr isnt ↦ rest i j r q below (rw isnt at ri) (rw isnt at qj)
    ]
  where
    only : (j : ℕ) → i < j
        → slice_get (row_at place (lost + lost_of x) x
        ∷ rows_behind fits (place + 1) (lost + lost_of x) entries) j ≡ Some q
        → row_at place (lost + lost_of x) x ≡ q → (r.place < q.place) × (r.moment ≤ q.moment)
    only zero below is same = absurd (omega arith)
    only (suc j) below is same =
        let up = places_above fits (place + 1) (lost + lost_of x) entries j q is in
        let at : place ≡ q.place = ap (λ (r : Row). r.place) same in
        absurd (omega arith)

-- the frames that a filter lets through are in order
frame_order : (t u : Option ℕ) → is_from t u ≡ true → is_some u ≡ true
    → unwrap_or (option_or t None) 0 ≤ unwrap_or (option_or u None) 0
frame_order None u from known = omega arith
frame_order (Some t) None from known = cc
frame_order (Some t) (Some u) from known = grind (arith, nat_tests)

pub valid_time : (t : Option ℕ) (bound : ℕ)
    → option_map_or (λ m. nat_lt m bound) t false ≡ true → is_some t ≡ true
valid_time None bound is = is
valid_time (Some t) bound is = refl

pub first_of : (a b c d e f : Bool) → (a && b && c && d && e && f) ≡ true → a ≡ true
first_of true b c d e f is = refl
first_of false b c d e f is = is

first_of_three : (a b c : Bool) → (a && b && c) ≡ true → a ≡ true
first_of_three true b c is = refl
first_of_three false b c is = is

pub frame_moment : (f : Frame) → is_valid (frame f) ≡ true → is_some (moment_of f.ert) ≡ true
frame_moment f valid =
    valid_time (moment_of f.ert) MOMENT_END (first_of (is_moment f.ert) _ _ _ _ _ valid)

order_of : (f : Filter) (a b : Entry) → passes f a ≡ true → passes f b ≡ true
    → is_valid b ≡ true → may_precede a b ≡ true → moment_in a ≤ moment_in b
order_of f (frame x) (frame y) fa fb valid before =
    frame_order (moment_of x.ert) (moment_of y.ert)
    (first_of_three (is_from (moment_of x.ert) (moment_of y.ert)) _ _ before) (frame_moment y valid)
order_of f (frame x) (loss_of_sync _) fa fb valid before = cc
order_of f (frame x) (production _) fa fb valid before = cc
order_of f (frame x) (seal _) fa fb valid before = cc
order_of f (loss_of_sync _) b fa fb valid before = cc
order_of f (production _) b fa fb valid before = cc
order_of f (seal _) b fa fb valid before = cc

pub passing_in_order : (f : Filter) → AreInOrder (passes f)
passing_in_order f = record { order = order_of f }

pub passing_rise : (f : Filter) (entries : List Entry) → IsArchive entries
    → IsRising (rows_of (passes f) entries)
passing_rise f entries archive =
    let parts = and_parts (list_all is_storable entries) (is_ordered entries) archive in
    rows_rise (passes f) (passing_in_order f) 0 0 entries parts.0 parts.1

seal_moments : (t u : Option ℕ) → is_from t u ≡ true → is_some u ≡ true
    → unwrap_or t 0 ≤ unwrap_or u 0
seal_moments None u from known = omega arith
seal_moments (Some t) None from known = cc
seal_moments (Some t) (Some u) from known = grind (arith, nat_tests)

pub seal_moment : (at : Cds) → is_valid (seal at) ≡ true → is_some (moment_of at) ≡ true
seal_moment at valid = valid_time (moment_of at) MOMENT_END valid

last_of_three : (a b c : Bool) → (a && b && c) ≡ true → c ≡ true
last_of_three a b true is = refl
last_of_three true true false is = is
last_of_three true false false is = is
last_of_three false b false is = is

seal_order : (a b : Entry) → is_seal a ≡ true → is_seal b ≡ true
    → is_valid b ≡ true → may_precede a b ≡ true → moment_in a ≤ moment_in b
seal_order (seal x) (seal y) fa fb valid before =
    seal_moments (moment_of x) (moment_of y)
    (last_of_three (is_from (frame_time (seal x)) (frame_time (seal y)))
    (is_above (seal_time (seal x)) (frame_time (seal y))) (is_from (moment_of x) (moment_of y)) before)
    (seal_moment y valid)
seal_order (seal x) (frame y) fa fb valid before = cc
seal_order (seal x) (loss_of_sync _) fa fb valid before = cc
seal_order (seal x) (production _) fa fb valid before = cc
seal_order (frame _) b fa fb valid before = cc
seal_order (loss_of_sync _) b fa fb valid before = cc
seal_order (production _) b fa fb valid before = cc

pub seals_rise : (entries : List Entry) → IsArchive entries → IsRising (rows_of is_seal entries)
seals_rise entries archive =
    let parts = and_parts (list_all is_storable entries) (is_ordered entries) archive in
    rows_rise is_seal (record { order = seal_order }) 0 0 entries parts.0 parts.1

notice_order : (a b : Entry) → is_notice a ≡ true → is_notice b ≡ true
    → is_valid b ≡ true → may_precede a b ≡ true → moment_in a ≤ moment_in b
notice_order (loss_of_sync _) b fa fb valid before = omega arith
notice_order (production _) b fa fb valid before = omega arith
notice_order (frame _) b fa fb valid before = cc
notice_order (seal _) b fa fb valid before = cc

pub notices_rise : (entries : List Entry) → IsArchive entries
    → IsRising (rows_of is_notice entries)
notices_rise entries archive =
    let parts = and_parts (list_all is_storable entries) (is_ordered entries) archive in
    rows_rise is_notice (record { order = notice_order }) 0 0 entries parts.0 parts.1

-- ---- what a selection wants

pub filter_both : {X : Type 0} → (p q : X → Bool) (xs : List X)
    → filter q (filter p xs) ≡ filter (λ x. p x && q x) xs
filter_both p q [] = refl
filter_both p q (x ∷ xs) = grind (arith, filter_both p q xs)

-- a frame at a place with a moment is admitted as its row is wanted
same_test : (s : Selection) (from place lost : ℕ) (b : Bool) (t : Option ℕ) → is_some t ≡ true
    → (nat_le from place && (nat_le s.first place && b && is_between s t))
    ≡ (b && is_wanted s from
    (record { place = place; moment = unwrap_or (option_or t None) 0; lost = lost }))
same_test s from place lost b None known = cc
same_test s from place lost b (Some t) known = grind (arith, nat_tests)

admitted_at : (s : Selection) (from place lost : ℕ) (e : Entry) → is_storable e ≡ true
    → (nat_le from place && admits s place e)
    ≡ (passes s.filter e && is_wanted s from (row_at place lost e))
admitted_at s from place lost (frame f) storable =
    same_test s from place lost (fits s.filter f) (moment_of f.ert)
    (frame_moment f (and_parts (is_valid (frame f)) (is_short (frame f)) storable).0)
admitted_at s from place lost (loss_of_sync _) storable = grind arith
admitted_at s from place lost (production _) storable = grind arith
admitted_at s from place lost (seal _) storable = grind arith

pub admitted_rows : (s : Selection) (from place lost : ℕ) (entries : List Entry)
    → list_all is_storable entries ≡ true
    → map (λ x. x.0) (filter (λ x. nat_le from x.0 && admits s x.0 x.1) (enumerate_from place entries))
    ≡ map (λ (r : Row). r.place)
    (filter (is_wanted s from) (rows_behind (passes s.filter) place lost entries))
admitted_rows s from place lost [] storable = refl
admitted_rows s from place lost (e ∷ entries) storable =
    let parts = and_parts (is_storable e) (list_all is_storable entries) storable in
    let here = admitted_at s from place (lost + lost_of e) e parts.0 in
    let rest = admitted_rows s from (place + 1) (lost + lost_of e) entries parts.1 in
    elim (cases_Bool (passes s.filter e)) [
      | inl is_so ↦ elim (cases_Bool (is_wanted s from (row_at place (lost + lost_of e) e))) [
        | inl wanted ↦ let both = rw (is_so, wanted) at here in rw (both, is_so, wanted, rest) refl
        | inr off ↦ let both = rw (is_so, off) at here in rw (both, is_so, off, rest) refl
      ]
      | inr isnt ↦ let both = rw isnt at here in rw (both, isnt, rest) refl
    ]

-- ---- how many rows, and what they sum up

pub rows_short : (fits : Entry → Bool) (place lost : ℕ) (entries : List Entry)
    → length (rows_behind fits place lost entries) ≤ length entries
rows_short fits place lost [] = omega arith
rows_short fits place lost (e ∷ entries) =
    let rest = rows_short fits (place + 1) (lost + lost_of e) entries in
    elim (cases_Bool (fits e)) [
      | inl is_so ↦ rw is_so (omega arith)
      | inr isnt ↦ rw isnt (omega arith)
    ]

row_sum : (fits : Entry → Bool) (place lost : ℕ) (entries : List Entry) (k : ℕ) (r : Row)
    → slice_get (rows_behind fits place lost entries) k ≡ Some r
    → (j : ℕ) × (r.place ≡ place + j) × (r.lost ≡ lost + sum_by lost_of (take (suc j) entries))
row_sum fits place lost [] k r is = cc
row_sum fits place lost (x ∷ entries) k r is = elim (cases_Bool (fits x)) [
  | inl is_so ↦ elim (cons_cases (row_at place (lost + lost_of x) x) r _ k (rw is_so at is)) [
    | inl same ↦ rw (← same) (0, omega arith, rw (sum_by-cons lost_of x []) (omega arith))
    | inr more ↦
        later (row_sum fits (place + 1) (lost + lost_of x) entries more.0 r more.2)
  ]
  | inr isnt ↦ later (row_sum fits (place + 1) (lost + lost_of x) entries k r (rw isnt at is))
]
  where
    later : (j : ℕ) × (r.place ≡ place + 1 + j)
        × (r.lost ≡ lost + lost_of x + sum_by lost_of (take (suc j) entries))
        → (j : ℕ) × (r.place ≡ place + j)
        × (r.lost ≡ lost + sum_by lost_of (take (suc j) (x ∷ entries)))
    later h = (
      suc h.0,
      omega (arith, h.1),
      h.2 ∙ rw (sum_by-cons lost_of x (take (suc h.0) entries)) (omega arith),
    )

-- a row's sum is what was lost up to and including its entry
pub row_lost : (fits : Entry → Bool) (entries : List Entry) (k : ℕ) (r : Row)
    → slice_get (rows_of fits entries) k ≡ Some r → r.lost ≡ lost_up_to entries (r.place + 1)
row_lost fits entries k r is =
    let h = row_sum fits 0 0 entries k r is in
    let at : r.place + 1 ≡ suc h.0 = omega (arith, h.1) in
    rw at (omega (arith, h.2))

-- ---- the entry of a row

places_below : (fits : Entry → Bool) (place lost : ℕ) (entries : List Entry) (k : ℕ) (r : Row)
    → slice_get (rows_behind fits place lost entries) k ≡ Some r → r.place < place + length entries
places_below fits place lost [] k r is = cc
places_below fits place lost (x ∷ entries) k r is = elim (cases_Bool (fits x)) [
  | inl is_so ↦ elim (cons_cases (row_at place (lost + lost_of x) x) r _ k (rw is_so at is)) [
    | inl same ↦ rw (← same) (omega arith)
    | inr more ↦
        let below = places_below fits (place + 1) (lost + lost_of x) entries more.0 r more.2 in
        omega arith
  ]
  | inr isnt ↦
      let below = places_below fits (place + 1) (lost + lost_of x) entries k r (rw isnt at is) in
      omega arith
]

pub row_below : (fits : Entry → Bool) (entries : List Entry) (k : ℕ) (r : Row)
    → slice_get (rows_of fits entries) k ≡ Some r → r.place < length entries
row_below fits entries k r is =
    let below = places_below fits 0 0 entries k r is in omega arith

entry_behind : (fits : Entry → Bool) (place lost : ℕ) (entries : List Entry) (k : ℕ) (r : Row)
    → slice_get (rows_behind fits place lost entries) k ≡ Some r
    → (e : Entry) × (j : ℕ) × (r.place ≡ place + j) × (slice_get entries j ≡ Some e)
    × (fits e ≡ true) × (r.moment ≡ moment_in e)
entry_behind fits place lost [] k r is = cc
entry_behind fits place lost (x ∷ entries) k r is = elim (cases_Bool (fits x)) [
  | inl is_so ↦ elim (cons_cases (row_at place (lost + lost_of x) x) r _ k (rw is_so at is)) [
    | inl same ↦ rw (← same) (x, 0, omega arith, refl, is_so, refl)
    | inr more ↦ later (entry_behind fits (place + 1) (lost + lost_of x) entries more.0 r more.2)
  ]
  | inr isnt ↦
      later (entry_behind fits (place + 1) (lost + lost_of x) entries k r (rw isnt at is))
]
  where
    later : (e : Entry) × (j : ℕ) × (r.place ≡ place + 1 + j) × (slice_get entries j ≡ Some e)
        × (fits e ≡ true) × (r.moment ≡ moment_in e)
        → (e : Entry) × (j : ℕ) × (r.place ≡ place + j)
        × (slice_get (x ∷ entries) j ≡ Some e) × (fits e ≡ true) × (r.moment ≡ moment_in e)
    later h = (h.0, suc h.1, omega (arith, h.2), h.3, h.4, h.5)

-- a row is that of an entry that fits
pub row_entry : (fits : Entry → Bool) (entries : List Entry) (k : ℕ) (r : Row)
    → slice_get (rows_of fits entries) k ≡ Some r
    → (e : Entry) × (slice_get entries r.place ≡ Some e) × (fits e ≡ true)
row_entry fits entries k r is =
    let h = entry_behind fits 0 0 entries k r is in
    let at : h.1 ≡ r.place = omega (arith, h.2) in
    (h.0, subst (λ p. slice_get entries p ≡ Some h.0) at h.3, h.4)
