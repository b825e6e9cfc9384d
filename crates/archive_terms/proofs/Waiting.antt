-- What waits behind a place.
use Rattle.std.proofs.Common.{◌≡◌, ℕ, zero, suc, ◌+◌, ◌≤◌, Bool, true, false, cond, not, ◌&&◌}
use Rattle.std.proofs.Common.{nat_le, List, [], ◌∷◌, ◌++◌, length, take, drop, refl, ap, sym, ◌∙◌}
use Rattle.std.proofs.Common.{arith, inl, inr}
use Rattle.std.specs.List.{filter, enumerate_from}
use Rattle.std.proofs.lemmas.List.{drop-append-le}
use Rattle.std.proofs.lemmas.List.Elements.{filter-append}
use Rattle.std.proofs.lemmas.Bool.{le-leb, lt-leb, both_ways, cases_lt, or_cases, and_parts}
use Rattle.std.proofs.lemmas.Bool.{true≢false}
use Rattle.cds_time.specs.Moment.{moment_of}
use Rattle.archive_terms.specs.Archive.{Entry, frame, loss_of_sync, production, seal}
use Rattle.archive_terms.specs.Selection.{Selection, fits, is_between, is_notice, is_started}
use Rattle.archive_terms.specs.Selection.{is_stop_closed, admits, is_told, is_picked, picked}
use Rattle.archive_terms.specs.Glimpse.{place_behind}
use Rattle.archive_terms.proofs.Picks.{picked_behind, picked-append}
use Rattle.archive_terms.proofs.Places.{RisesTo, rises_to_end, places_of}
use Rattle.archive_terms.proofs.Rising.{behind_rises}

abbrev pub from_place : ℕ → ℕ × Entry → Bool
from_place place x = nat_le place x.0

keeps_all : (from to q : ℕ) (xs : List (ℕ × Entry)) → RisesTo from to (places_of xs) → q ≤ from
    → filter (from_place q) xs ≡ xs
keeps_all from to q [] rise below = refl
keeps_all from to q (x ∷ xs) rise below =
    let h : from ≤ x.0 = rise.0 in
    ap (λ b. cond b (x ∷ filter (from_place q) xs) (filter (from_place q) xs))
    (le-leb q x.0 (omega arith))
    ∙ ap (λ ys. x ∷ ys) (keeps_all (suc x.0) to q xs rise.1 (omega arith))

-- the place behind the first few lies between that before them and the end
pub behind_from : (from to place j : ℕ) (xs : List (ℕ × Entry)) → RisesTo from to (places_of xs)
    → place ≤ from
    → place ≤ place_behind place (take j xs)
behind_from from to place zero xs rise below = omega arith
behind_from from to place (suc j) [] rise below = omega arith
behind_from from to place (suc j) (x ∷ xs) rise below =
    let rest : x.0 + 1 ≤ place_behind (x.0 + 1) (take j xs) =
    behind_from (suc x.0) to (x.0 + 1) j xs rise.1 (omega arith) in
    let h : from ≤ x.0 = rise.0 in omega arith

pub behind_to : (from to place j : ℕ) (xs : List (ℕ × Entry)) → RisesTo from to (places_of xs)
    → place ≤ to
    → place_behind place (take j xs) ≤ to
behind_to from to place zero xs rise within = within
behind_to from to place (suc j) [] rise within = within
behind_to from to place (suc j) (x ∷ xs) rise within =
    behind_to (suc x.0) to (x.0 + 1) j xs rise.1 (let h : suc x.0 ≤ to =
    rises_to_end (suc x.0) to (places_of xs) rise.1 in omega arith)

-- behind the first few the others wait
drops_first : (from to place j : ℕ) (xs : List (ℕ × Entry)) → RisesTo from to (places_of xs)
    → place ≤ from
    → filter (from_place (place_behind place (take j xs))) xs ≡ drop j xs
drops_first from to place zero xs rise below = keeps_all from to place xs rise below
drops_first from to place (suc j) [] rise below = refl
drops_first from to place (suc j) (x ∷ xs) rise below =
    let q : ℕ = place_behind (x.0 + 1) (take j xs) in
    let above : x.0 + 1 ≤ q = behind_from (suc x.0) to (x.0 + 1) j xs rise.1 (omega arith) in
    ap (λ b. cond b (x ∷ filter (from_place q) xs) (filter (from_place q) xs))
    (lt-leb q x.0 (omega arith))
    ∙ drops_first (suc x.0) to (x.0 + 1) j xs rise.1 (omega arith)

earlier_fails : (place q n : ℕ) → place ≤ q → nat_le place n ≡ false → nat_le q n ≡ false
earlier_fails place q n le fails =
    elim (cases_lt n place) [
      | inl less ↦ lt-leb q n (omega arith)
      | inr more ↦ absurd (both_ways (nat_le place n) fails (le-leb place n (omega arith)))
    ]

filter_later : (place q : ℕ) → place ≤ q → (xs : List (ℕ × Entry))
    → filter (from_place q) (filter (from_place place) xs) ≡ filter (from_place q) xs
filter_later place q le [] = refl
filter_later place q le (x ∷ xs) =
    on_test (nat_le place x.0) (nat_le q x.0) refl (earlier_fails place q x.0 le)
    (filter_later place q le xs)
  where
    on_test : (b c : Bool) → nat_le q x.0 ≡ c → (b ≡ false → c ≡ false)
        → filter (from_place q) (filter (from_place place) xs) ≡ filter (from_place q) xs
        → filter (from_place q) (cond b (x ∷ filter (from_place place) xs)
        (filter (from_place place) xs)) ≡ cond c (x ∷ filter (from_place q) xs)
        (filter (from_place q) xs)
    on_test true c is why rest =
        ap (λ b. cond b (x ∷ filter (from_place q) (filter (from_place place) xs))
        (filter (from_place q) (filter (from_place place) xs))) is
        ∙ ap (λ ys. cond c (x ∷ ys) ys) rest
    on_test false true is why rest = absurd (true≢false (why refl))
    on_test false false is why rest = rest

-- with the first few of those that wait taken, the others wait behind the last one
pub waits_behind : (from to place j m : ℕ) (xs : List (ℕ × Entry)) → RisesTo from to (places_of xs)
    → filter (from_place place) xs ≡ drop m xs → RisesTo place to (places_of (drop m xs))
    → filter (from_place (place_behind place (take j (drop m xs)))) xs ≡ drop j (drop m xs)
waits_behind from to place j m xs rise waits rest =
    let q : ℕ = place_behind place (take j (drop m xs)) in
    sym (filter_later place q (behind_from place to place j (drop m xs) rest (omega arith)) xs)
    ∙ ap (filter (from_place q)) waits ∙ drops_first place to place j (drop m xs) rest (omega arith)

-- what a filter by place leaves rises from there
pub left_rises : (from to place : ℕ) (xs : List (ℕ × Entry)) → RisesTo from to (places_of xs)
    → place ≤ to
    → RisesTo place to (places_of (filter (from_place place) xs))
left_rises from to place [] rise within = within
left_rises from to place (x ∷ xs) rise within =
    elim (cases_lt x.0 place) [
      | inl less ↦
          let none : nat_le place x.0 ≡ false = lt-leb place x.0 less in
          rw none (left_rises (suc x.0) to place xs rise.1 within)
      | inr more ↦
          let here : nat_le place x.0 ≡ true = le-leb place x.0 (omega arith) in
          rw here (rw (keeps_all (suc x.0) to place xs rise.1 (omega arith)) (omega arith, rise.1))
    ]

filter_implied : {X : Type 0} → (f g : X → Bool) → ((x : X) → g x ≡ true → f x ≡ true)
    → (xs : List X) → filter f (filter g xs) ≡ filter g xs
filter_implied f g implies [] = refl
filter_implied {X} f g implies (x ∷ xs) = on_test (g x) (implies x) (filter_implied f g implies xs)
  where
    on_test : (b : Bool) → (b ≡ true → f x ≡ true) → filter f (filter g xs) ≡ filter g xs
        → filter f (cond b (x ∷ filter g xs) (filter g xs)) ≡ cond b (x ∷ filter g xs) (filter g xs)
    on_test true why rest = ap (λ c. cond c (x ∷ filter f (filter g xs)) (filter f (filter g xs)))
        (why refl) ∙ ap (λ ys. x ∷ ys) rest
    on_test false why rest = rest

picked_from_first : (s : Selection) (a : List Entry) (k : ℕ) (e : Entry) → is_picked s a k e ≡ true
    → nat_le s.first k ≡ true
picked_from_first s a k e is =
    elim (or_cases (admits s k e) (is_told s (take k a) k e) is)
    [ inl frames ↦ of_frame e frames | inr told ↦ of_notice told ]
  where
    of_frame : (e : Entry) → admits s k e ≡ true → nat_le s.first k ≡ true
    of_frame (frame f) admitted =
        (and_parts (nat_le s.first k) (fits s.filter f)
        (and_parts (nat_le s.first k && fits s.filter f) (is_between s (moment_of f.ert))
        admitted).0).0
    of_frame (loss_of_sync l) admitted = cc
    of_frame (production p) admitted = cc
    of_frame (seal t) admitted = cc

    of_notice : is_told s (take k a) k e ≡ true → nat_le s.first k ≡ true
    of_notice told =
        let p1 = and_parts (s.notices && is_notice e && nat_le s.first k && is_started s (take k a))
        (not (is_stop_closed s (take k a))) told in
        let p2 = and_parts (s.notices && is_notice e && nat_le s.first k) (is_started s (take k a))
        p1.0 in
        (and_parts (s.notices && is_notice e) (nat_le s.first k) p2.0).1

pub all_from_first : (a : List Entry) (s : Selection)
    → filter (from_place s.first) (picked a s) ≡ picked a s
all_from_first a s =
    filter_implied (from_place s.first) (λ x. is_picked s a x.0 x.1)
    (λ x is. picked_from_first s a x.0 x.1 is) (enumerate_from 0 a)

-- what waits stays as the archive grows, with what is picked of the new entries behind it
pub waits_grow : (a b : List Entry) (s : Selection) (place n : ℕ) → place ≤ length a
    → n ≤ length (picked a s)
    → filter (from_place place) (picked a s) ≡ drop n (picked a s)
    → filter (from_place place) (picked (a ++ b) s) ≡ drop n (picked (a ++ b) s)
waits_grow a b s place n within fits waits =
    ap (filter (from_place place)) (picked-append a b s)
    ∙ filter-append (from_place place) (picked a s) (picked_behind a b s)
    ∙ ap (λ xs. xs ++ filter (from_place place) (picked_behind a b s)) waits
    ∙ ap (λ xs. drop n (picked a s) ++ xs) (keeps_all (length a) (length (a ++ b)) place
    (picked_behind a b s) (behind_rises a b s) within)
    ∙ sym (drop-append-le n (picked a s) (picked_behind a b s) fits)
    ∙ ap (drop n) (sym (picked-append a b s))
