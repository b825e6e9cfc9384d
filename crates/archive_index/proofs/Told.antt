-- What rows tell of a start that is reached and a stop that is closed before a place.
use Rattle.std.proofs.Common.{◌≡◌, ◌∙◌, ℕ, zero, suc, ◌+◌, ◌<◌, Bool, true, false, min}
use Rattle.std.proofs.Common.{List, [], ◌∷◌, length, take, slice_get, Some, None, refl, ◌||◌}
use Rattle.std.proofs.Common.{inl, inr, max, ◌&&◌, nat_le, nat_lt, ap, sym, arith, Option, not, is_some}
use Rattle.std.specs.List.{filter, list_all, list_any}
use Rattle.std.specs.Option.{option_map_or, unwrap_or, option_or}
use Rattle.std.proofs.lemmas.Bool.{cases_Bool, and_parts}
use Rattle.std.proofs.lemmas.Bool.Decides.{nat_tests}
use Rattle.std.proofs.lemmas.List.{drop_all}
use Rattle.cds_time.specs.Moment.{moment_of}
use Rattle.cds_time.specs.declared.cds.TheConstants.{MOMENT_END}
use Rattle.archive_terms.specs.Archive.{Entry, frame, loss_of_sync, production, seal, IsArchive}
use Rattle.archive_terms.specs.Archive.{is_storable, is_valid, is_short, is_ordered, closes, is_closed}
use Rattle.archive_terms.specs.Archive.{is_moment}
use Rattle.archive_terms.specs.Selection.{is_frame_from, by_quality, Selection, is_started, is_notice}
use Rattle.archive_terms.specs.Selection.{is_stop_closed}
use Rattle.archive_terms.specs.Continuity.{lost_of}
use Rattle.archive_index.specs.Rows.{reaches, IsRising, IsFirstFrom, rows_behind, rows_of, passes}
use Rattle.archive_index.specs.Rows.{moment_in, is_seal}
use Rattle.archive_index.specs.Walking.{is_told_from, AreNotices}
use Rattle.archive_index.specs.declared.row.Row.{Row}
use Rattle.archive_index.proofs.Rising.{filter_split}
use Rattle.archive_index.proofs.RowsOf.{places_above, frame_moment, seal_moment, filter_both}
use Rattle.archive_index.proofs.RowsOf.{row_below, first_of}
use Rattle.archive_index.proofs.Walks.{filter_alike, filter_fails}

-- ---- rows before a place, at a moment or later

none_any : {X : Type 0} → (q : X → Bool) (xs : List X)
    → ((k : ℕ) (x : X) → slice_get xs k ≡ Some x → q x ≡ false) → list_any q xs ≡ false
none_any q [] none = refl
none_any q (x ∷ xs) none =
    let here : q x ≡ false = none 0 x refl in
    let rest = none_any q xs (λ k y is. none (suc k) y is) in
    rw (here, rest) refl

abbrev pub is_before : ℕ → ℕ → Row → Bool
is_before n t r = nat_lt r.place n && nat_le t r.moment

-- such a row is there where the first one at the moment or later is before the place
pub first_before : (t n : ℕ) (rows : List Row) (i : ℕ) → IsRising rows → IsFirstFrom 0 t rows i
    → list_any (is_before n t) rows
    ≡ option_map_or (λ (r : Row). nat_lt r.place n) (slice_get rows i) false
first_before t n [] i rising first = refl
first_before t n (x ∷ rows) zero rising first =
    let here = first.behind 0 x (omega arith) refl in
    let late : nat_lt x.place n ≡ false → list_any (is_before n t) rows ≡ false =
    λ past. none_any (is_before n t) rows (λ k y is.
    let up = rising 0 (suc k) x y (omega arith) refl is in grind (arith, nat_tests)) in
    elim (cases_Bool (nat_lt x.place n)) [
      | inl before ↦ grind (arith, nat_tests)
      | inr past ↦ let none = late past in grind (arith, nat_tests)
    ]
first_before t n (x ∷ rows) (suc i) rising first =
    let here = first.before 0 x (omega arith) refl in
    let rest = first_before t n rows i (λ a b r q lt ra qb. rising (suc a) (suc b) r q (omega arith)
    ra qb) (record {
      before = λ k q below at. first.before (suc k) q (omega arith) at;
      behind = λ k q above at. first.behind (suc k) q (omega arith) at;
    }) in
    grind (arith, nat_tests, rest)

-- ---- entries before a place, at a moment or later

abbrev pub is_late : (Entry → Bool) → ℕ → Entry → Bool
is_late fits t e = fits e && nat_le t (moment_in e)

here_before : (t place n lost m : ℕ) (e : Entry)
    → nat_le t m ≡ is_before (place + suc n) t (record { place = place; moment = m; lost = lost })
here_before t place n lost m e = grind (arith, nat_tests)

any_rows : (fits : Entry → Bool) (t place n lost : ℕ) (entries : List Entry)
    → list_any (is_late fits t) (take n entries)
    ≡ list_any (is_before (place + n) t) (rows_behind fits place lost entries)
any_rows fits t place zero lost entries =
    sym (none_any (is_before (place + 0) t) (rows_behind fits place lost entries) (λ k r is.
    let up = places_above fits place lost entries k r is in grind (arith, nat_tests)))
any_rows fits t place (suc n) lost [] = refl
any_rows fits t place (suc n) lost (e ∷ entries) =
    let same : place + 1 + n ≡ place + suc n = omega arith in
    let rest = rw same at (any_rows fits t (place + 1) n (lost + lost_of e) entries) in
    elim (cases_Bool (fits e)) [
      | inl is_so ↦
          let here = here_before t place n (lost + lost_of e) (moment_in e) e in
          rw (is_so, ← here, rest) refl
      | inr isnt ↦ rw (isnt, rest) refl
    ]

-- whether an entry before a place fits and is at a moment or later, by the first such row
pub late_before : (fits : Entry → Bool) (t n : ℕ) (entries : List Entry) (i : ℕ)
    → IsRising (rows_of fits entries) → IsFirstFrom 0 t (rows_of fits entries) i
    → list_any (is_late fits t) (take n entries)
    ≡ option_map_or (λ (r : Row). nat_lt r.place n) (slice_get (rows_of fits entries) i) false
late_before fits t n entries i rising first =
    let same : 0 + n ≡ n = omega arith in
    any_rows fits t 0 n 0 entries ∙ rw same (first_before t n (rows_of fits entries) i rising first)

-- ---- tests of storable entries

any_alike : (p q : Entry → Bool) → ((e : Entry) → is_storable e ≡ true → p e ≡ q e)
    → (n : ℕ) (entries : List Entry) → list_all is_storable entries ≡ true
    → list_any p (take n entries) ≡ list_any q (take n entries)
any_alike p q same zero entries storable = refl
any_alike p q same (suc n) [] storable = refl
any_alike p q same (suc n) (e ∷ entries) storable =
    let s = and_parts (is_storable e) (list_all is_storable entries) storable in
    let here = same e s.0 in
    let rest = any_alike p q same n entries s.1 in
    rw (here, rest) refl

any_either : (p q : Entry → Bool) (entries : List Entry)
    → list_any (λ e. p e || q e) entries ≡ (list_any p entries || list_any q entries)
any_either p q [] = refl
any_either p q (e ∷ entries) =
    let rest = any_either p q entries in rw rest (four (p e) (q e) _ _)
  where
    four : (a b c d : Bool) → ((a || b) || (c || d)) ≡ ((a || c) || (b || d))
    four true b c d = refl
    four false true true d = refl
    four false true false d = refl
    four false false c d = refl

from_time : (t : ℕ) (time : Option ℕ) → is_some time ≡ true
    → option_map_or (λ u. nat_le t u) time false ≡ nat_le t (unwrap_or (option_or time None) 0)
from_time t None known = cc
from_time t (Some u) known = refl

frame_from : (t : ℕ) (e : Entry) → is_storable e ≡ true
    → is_frame_from t e ≡ is_late (passes (by_quality 2)) t e
frame_from t (frame f) storable =
    from_time t (moment_of f.ert)
    (frame_moment f (and_parts (is_valid (frame f)) (is_short (frame f)) storable).0)
frame_from t (loss_of_sync _) storable = refl
frame_from t (production _) storable = refl
frame_from t (seal _) storable = refl

all_storable : (entries : List Entry) → IsArchive entries → list_all is_storable entries ≡ true
all_storable entries archive =
    (and_parts (list_all is_storable entries) (is_ordered entries) archive).0

pub started_before : (t n : ℕ) (entries : List Entry) (i : ℕ) → IsArchive entries
    → IsRising (rows_of (passes (by_quality 2)) entries)
    → IsFirstFrom 0 t (rows_of (passes (by_quality 2)) entries) i
    → list_any (is_frame_from t) (take n entries)
    ≡ option_map_or (λ (r : Row). nat_lt r.place n)
    (slice_get (rows_of (passes (by_quality 2)) entries) i) false
started_before t n entries i archive rising first =
    any_alike (is_frame_from t) (is_late (passes (by_quality 2)) t) (frame_from t) n entries
    (all_storable entries archive)
    ∙ late_before (passes (by_quality 2)) t n entries i rising first

-- a frame above a stop, which may stand at the greatest number
above_time : (stop t : ℕ) (time : Option ℕ) → t ≡ min (stop + 1) 340282366920938463463374607431768211455
    → option_map_or (λ m. nat_lt m MOMENT_END) time false ≡ true
    → option_map_or (λ u. nat_lt stop u) time false
    ≡ nat_le t (unwrap_or (option_or time None) 0)
above_time stop t None is known = cc
above_time stop t (Some u) is known = grind (arith, nat_tests)

seal_late : (stop : ℕ) (time : Option ℕ) → is_some time ≡ true
    → option_map_or (λ u. nat_le stop u) time false ≡ nat_le stop (unwrap_or time 0)
seal_late stop None known = cc
seal_late stop (Some u) known = refl

or_none : (b : Bool) → (b || false) ≡ b
or_none true = refl
or_none false = refl

closing : (stop t : ℕ) → t ≡ min (stop + 1) 340282366920938463463374607431768211455
    → (e : Entry) → is_storable e ≡ true
    → closes stop e ≡ (is_late (passes (by_quality 2)) t e || is_late is_seal stop e)
closing stop t is (frame f) storable =
    let valid = (and_parts (is_valid (frame f)) (is_short (frame f)) storable).0 in
    rw (above_time stop t (moment_of f.ert) is (first_of (is_moment f.ert) _ _ _ _ _ valid)) refl
closing stop t is (seal at) storable =
    let valid = (and_parts (is_valid (seal at)) (is_short (seal at)) storable).0 in
    seal_late stop (moment_of at) (seal_moment at valid)
closing stop t is (loss_of_sync _) storable = refl
closing stop t is (production _) storable = refl

place_or : (n : ℕ) → n < 18446744073709551616 → (r : Option Row)
    → option_map_or (λ (r : Row). nat_lt r.place n) r false
    ≡ nat_lt (option_map_or (λ (r : Row). r.place) r 18446744073709551615) n
place_or n few None = grind (arith, nat_tests)
place_or n few (Some r) = refl

-- a stop is closed before a place by the first frame above it, or the first seal at it or later
pub closed_before : (stop t n : ℕ) (entries : List Entry) (i j : ℕ)
    → t ≡ min (stop + 1) 340282366920938463463374607431768211455 → n < 18446744073709551616
    → IsArchive entries
    → IsRising (rows_of (passes (by_quality 2)) entries) → IsRising (rows_of is_seal entries)
    → IsFirstFrom 0 t (rows_of (passes (by_quality 2)) entries) i
    → IsFirstFrom 0 stop (rows_of is_seal entries) j
    → is_closed (take n entries) stop
    ≡ nat_lt (min (option_map_or (λ (r : Row). r.place)
    (slice_get (rows_of (passes (by_quality 2)) entries) i) 18446744073709551615)
    (option_map_or (λ (r : Row). r.place) (slice_get (rows_of is_seal entries) j)
    18446744073709551615)) n
closed_before stop t n entries i j is few archive rising seals first sealed =
    let each = any_alike (closes stop)
    (λ e. is_late (passes (by_quality 2)) t e || is_late is_seal stop e) (closing stop t is) n entries
    (all_storable entries archive) in
    let parts = any_either (is_late (passes (by_quality 2)) t) (is_late is_seal stop) (take n entries) in
    let one = late_before (passes (by_quality 2)) t n entries i rising first
    ∙ place_or n few (slice_get (rows_of (passes (by_quality 2)) entries) i) in
    let two = late_before is_seal stop n entries j seals sealed
    ∙ place_or n few (slice_get (rows_of is_seal entries) j) in
    each ∙ parts ∙ rw (one, two) (least _ _ n)
  where
    least : (a b n : ℕ) → (nat_lt a n || nat_lt b n) ≡ nat_lt (min a b) n
    least a b n = grind (arith, nat_tests)

-- ---- the notices that are told

pub none_told : (entries : List Entry) (s : Selection) (place notice until : ℕ)
    → notice ≡ length (rows_of is_notice entries)
    → ((r : Row) → is_told_from s entries place r ≡ false)
    → AreNotices entries s place notice until
none_told entries s place notice until is none =
    let all = drop_all notice (rows_of is_notice entries) (omega arith) in
    filter_fails (is_told_from s entries place) (rows_of is_notice entries) (λ k r at. none r)
    ∙ rw all refl

pub silent : (entries : List Entry) (s : Selection) (place : ℕ) (r : Row) → s.notices ≡ false
    → is_told_from s entries place r ≡ false
silent entries s place r none = rw none (off (nat_le place r.place) _ _ _)
  where
    off : (a c d e : Bool) → (a && false && c && d && e) ≡ false
    off true c d e = refl
    off false c d e = refl

pub unstarted : (entries : List Entry) (s : Selection) (place : ℕ) (r : Row)
    → is_started s (take r.place entries) ≡ false
    → is_told_from s entries place r ≡ false
unstarted entries s place r none = rw none (off (nat_le place r.place) s.notices (nat_le s.first r.place) _)
  where
    off : (a b c e : Bool) → (a && b && c && false && e) ≡ false
    off true true true e = refl
    off true true false e = refl
    off true false c e = refl
    off false b c e = refl

pub told_rest : (entries : List Entry) (s : Selection) (place first from until notice : ℕ)
    → s.notices ≡ true → first ≡ max place s.first → length entries < 18446744073709551616
    → ((n : ℕ) → is_started s (take n entries) ≡ nat_le from n)
    → ((n : ℕ) → n < 18446744073709551616
    → is_stop_closed s (take n entries) ≡ nat_lt until n)
    → IsFirstFrom (max first from) 0 (rows_of is_notice entries) notice
    → AreNotices entries s place notice until
told_rest entries s place first from until notice tells is few started closed found =
    let rows = rows_of is_notice entries in
    filter_alike (is_told_from s entries place)
    (λ r. reaches (max first from) 0 r && nat_le r.place until) rows
    (λ k r at.
    let below = row_below is_notice entries k r at in
    let one = started r.place in
    let two = closed r.place (omega arith) in
    rw (one, two, tells, is) (five place s.first from until r.place r.moment))
    ∙ sym (filter_both (reaches (max first from) 0) (λ (r : Row). nat_le r.place until) rows)
    ∙ ap (filter (λ (r : Row). nat_le r.place until))
    (filter_split (reaches (max first from) 0) rows notice found.before found.behind)
  where
    five : (place first from until p m : ℕ)
        → (nat_le place p && true && nat_le first p && nat_le from p && not (nat_lt until p))
        ≡ (nat_le (max (max place first) from) p && nat_le 0 m && nat_le p until)
    five place first from until p m = grind (arith, nat_tests)
