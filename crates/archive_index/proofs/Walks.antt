-- A walk goes on by the rows that are left.
use Rattle.std.proofs.Common.{◌≡◌, ◌∙◌, ℕ, zero, suc, ◌+◌, ◌≤◌, Bool, true, false}
use Rattle.std.proofs.Common.{List, [], ◌∷◌, length, drop, slice_get, Some, None, refl, inl, inr}
use Rattle.std.proofs.Common.{max, ◌&&◌, nat_le, ap, sym, arith, add-one, Option, not}
use Rattle.std.specs.List.{filter}
use Rattle.std.proofs.lemmas.Bool.{cases_eq, cases_Bool}
use Rattle.std.proofs.lemmas.Bool.Decides.{nat_tests}
use Rattle.std.proofs.lemmas.List.{drop_all}
use Rattle.std.proofs.lemmas.List.Elements.{filter_agree}
use Rattle.archive_terms.specs.Archive.{Entry}
use Rattle.archive_terms.specs.Selection.{Selection, is_not_after}
use Rattle.archive_index.specs.Rows.{reaches, IsRising, start_of, is_wanted, IsFirstFrom}
use Rattle.archive_index.specs.Walking.{is_told_from}
use Rattle.archive_index.specs.declared.row.Row.{Row}
use Rattle.archive_index.proofs.Rising.{filter_split}
use Rattle.archive_index.proofs.RowsOf.{filter_both}

-- ---- filters

slice_get-drop : {X : Type 0} → (n : ℕ) (xs : List X) (k j : ℕ) → j ≡ n + k
    → slice_get (drop n xs) k ≡ slice_get xs j
slice_get-drop zero xs k j is = let same : j ≡ k = omega arith in rw same refl
slice_get-drop (suc n) [] k j is = refl
slice_get-drop (suc n) (x ∷ xs) k zero is = absurd (omega arith)
slice_get-drop (suc n) (x ∷ xs) k (suc j) is = slice_get-drop n xs k j (omega arith)

-- tests that agree on the elements
pub filter_alike : {X : Type 0} → (p q : X → Bool) (xs : List X)
    → ((k : ℕ) (x : X) → slice_get xs k ≡ Some x → p x ≡ q x) → filter p xs ≡ filter q xs
filter_alike p q [] same = refl
filter_alike p q (x ∷ xs) same =
    let here : p x ≡ q x = same 0 x refl in
    let rest = filter_alike p q xs (λ k y is. same (suc k) y is) in
    rw (here, rest) refl

pub filter_fails : {X : Type 0} → (p : X → Bool) (xs : List X)
    → ((k : ℕ) (x : X) → slice_get xs k ≡ Some x → p x ≡ false)
    → filter p xs ≡ []
filter_fails p [] none = refl
filter_fails p (x ∷ xs) none =
    let here : p x ≡ false = none 0 x refl in
    let rest = filter_fails p xs (λ k y is. none (suc k) y is) in
    rw here rest

filter_first : {X : Type 0} → (p : X → Bool) (xs : List X) (x : X) (rest : List X)
    → filter p xs ≡ x ∷ rest → p x ≡ true
filter_first p [] x rest is = cc
filter_first p (y ∷ xs) x rest is = elim (cases_Bool (p y)) [
  | inl is_so ↦ let both = rw is_so at is in let same : y ≡ x = cc in rw (← same) is_so
  | inr isnt ↦ filter_first p xs x rest (rw isnt at is)
]

drop_cons : {X : Type 0} → (xs : List X) (n : ℕ) (x : X) → slice_get xs n ≡ Some x
    → drop n xs ≡ x ∷ drop (suc n) xs
drop_cons [] n x is = cc
drop_cons (y ∷ xs) zero x is = cc
drop_cons (y ∷ xs) (suc n) x is = drop_cons xs n x is

drop_at : {X : Type 0} → (xs : List X) (n : ℕ) (x : X) → slice_get xs n ≡ Some x
    → drop n xs ≡ x ∷ drop (n + 1) xs
drop_at xs n x is = rw add-one (drop_cons xs n x is)

-- ---- tests of rows from a place on, and tests that rows fail from somewhere on

pub record IsFrom (wanted : ℕ → Row → Bool) : Type 0 where
  pub later : (from to : ℕ) (r : Row) → from ≤ to
      → wanted to r ≡ (wanted from r && nat_le to r.place)
  pub reached : (from : ℕ) (r : Row) → wanted from r ≡ true → from ≤ r.place

pub record IsUpTo (stays : Row → Bool) : Type 0 where
  pub over : (r q : Row) → r.place ≤ q.place → r.moment ≤ q.moment → stays r ≡ false
      → stays q ≡ false

-- from a later place on the same rows are wanted, where the first one is there or after it
pub later_same : (wanted : ℕ → Row → Bool) → IsFrom wanted → (from to : ℕ) (rows : List Row)
    → IsRising rows → from ≤ to
    → ((r : Row) → slice_get (filter (wanted from) rows) 0 ≡ Some r → to ≤ r.place)
    → filter (wanted to) rows ≡ filter (wanted from) rows
later_same wanted is from to [] rising later above = refl
later_same wanted is from to (x ∷ rows) rising later above = elim (cases_Bool (wanted from x)) [
  | inl here ↦
      let up : to ≤ x.place = above x (rw here refl) in
      filter_alike (wanted to) (wanted from) (x ∷ rows) (λ k q at.
      let all : to ≤ q.place = elim (cases_eq k 0) [
        | inl zero_is ↦ let first = rw zero_is at at in let same : x ≡ q = cc in rw (← same) up
        | inr more ↦
            let next = rising 0 k x q (omega arith) refl at in omega (arith, next.0)
      ] in
      let test = is.later from to q later in grind (arith, nat_tests))
  | inr off ↦
      let test = is.later from to x later in
      let also : wanted to x ≡ false = rw off at test in
      let rest = later_same wanted is from to rows
      (λ i j r q below ri qj. rising (suc i) (suc j) r q (omega arith) ri qj) later
      (λ r at. above r (rw off at)) in
      rw (also, off) rest
]

-- the next row that is left is wanted next
pub left_next : (wanted : ℕ → Row → Bool) (stays : Row → Bool) → IsFrom wanted
    → (from n : ℕ) (rows : List Row) (r : Row) → IsRising rows → slice_get rows n ≡ Some r
    → stays r ≡ true → filter (wanted from) rows ≡ filter stays (drop n rows)
    → (slice_get (filter (wanted from) rows) 0 ≡ Some r) × (from ≤ r.place)
    × (filter (wanted (r.place + 1)) rows ≡ filter stays (drop (n + 1) rows))
left_next wanted stays is from n rows r rising there within left =
    let begins : filter (wanted from) rows ≡ r ∷ filter stays (drop (n + 1) rows) =
    left ∙ rw (drop_at rows n r there, within) refl in
    let reached = is.reached from r (filter_first (wanted from) rows r _ begins) in
    let fewer : filter (wanted (r.place + 1)) rows
    ≡ filter (λ q. wanted from q && nat_le (r.place + 1) q.place) rows =
    filter_agree _ _ (λ q. is.later from (r.place + 1) q (omega arith)) rows in
    let split : filter (λ q. wanted from q && nat_le (r.place + 1) q.place) rows
    ≡ filter (λ (q : Row). nat_le (r.place + 1) q.place) (filter (wanted from) rows) =
    sym (filter_both (wanted from) (λ (q : Row). nat_le (r.place + 1) q.place) rows) in
    let past : nat_le (r.place + 1) r.place ≡ false = grind (arith, nat_tests) in
    let last : filter (λ (q : Row). nat_le (r.place + 1) q.place)
    (filter stays (drop (n + 1) rows)) ≡ filter stays (drop (n + 1) rows) =
    filter_both stays (λ (q : Row). nat_le (r.place + 1) q.place) (drop (n + 1) rows)
    ∙ filter_alike _ stays (drop (n + 1) rows) (λ k q at.
    let there_too : slice_get rows (n + 1 + k) ≡ Some q =
    sym (slice_get-drop (n + 1) rows k (n + 1 + k) refl) ∙ at in
    let up = rising n (n + 1 + k) r q (omega arith) there there_too in
    grind (arith, nat_tests)) in
    (rw begins refl, reached, fewer ∙ split ∙ rw (begins, past, last) refl)

-- after a row that is past the end nothing is wanted
pub none_left : (wanted : ℕ → Row → Bool) (stays : Row → Bool) → IsUpTo stays
    → (from n : ℕ) (rows : List Row) (r : Row) → IsRising rows → slice_get rows n ≡ Some r
    → stays r ≡ false → filter (wanted from) rows ≡ filter stays (drop n rows)
    → filter (wanted from) rows ≡ []
none_left wanted stays ends from n rows r rising there past left =
    left ∙ filter_fails stays (drop n rows) (λ k q is.
    let at : slice_get rows (n + k) ≡ Some q = sym (slice_get-drop n rows k (n + k) refl) ∙ is in
    elim (cases_eq k 0) [
      | inl zero_is ↦
          let same_place : n + k ≡ n = omega arith in
          let here = rw same_place at at in let same : r ≡ q = cc in rw (← same) past
      | inr more ↦
          let up = rising n (n + k) r q (omega arith) there at in
          ends.over r q (omega (arith, up.0)) up.1 past
    ])

slice_get_past : {X : Type 0} → (xs : List X) (n : ℕ) → slice_get xs n ≡ None → length xs ≤ n
slice_get_past [] n is = omega arith
slice_get_past (x ∷ xs) zero is = cc
slice_get_past (x ∷ xs) (suc n) is = let rest = slice_get_past xs n is in omega arith

-- nor where no row is left
pub none_behind : (wanted : ℕ → Row → Bool) (stays : Row → Bool) (from n : ℕ) (rows : List Row)
    → slice_get rows n ≡ None → filter (wanted from) rows ≡ filter stays (drop n rows)
    → filter (wanted from) rows ≡ []
none_behind wanted stays from n rows past left =
    let none = drop_all n rows (slice_get_past rows n past) in left ∙ rw none refl

-- ---- frames

-- what is wanted is at and after the first row that is reached
pub wanted_rest : (s : Selection) (from n : ℕ) (rows : List Row)
    → IsFirstFrom (max from s.first) (start_of s) rows n
    → filter (is_wanted s from) rows ≡ filter (λ r. is_not_after s.stop r.moment) (drop n rows)
wanted_rest s from n rows first =
    sym (filter_both (reaches (max from s.first) (start_of s)) (λ r. is_not_after s.stop r.moment) rows)
    ∙ ap (filter (λ r. is_not_after s.stop r.moment))
    (filter_split (reaches (max from s.first) (start_of s)) rows n first.before first.behind)

frames_later : (s : Selection) (from to : ℕ) (r : Row) → from ≤ to
    → is_wanted s to r ≡ (is_wanted s from r && nat_le to r.place)
frames_later s from to r later = grind (arith, nat_tests)

frames_reached : (s : Selection) (from : ℕ) (r : Row) → is_wanted s from r ≡ true
    → from ≤ r.place
frames_reached s from r wanted = grind (arith, nat_tests)

pub frames_from : (s : Selection) → IsFrom (is_wanted s)
frames_from s = record { later = frames_later s; reached = frames_reached s }

after_stop : (stop : Option ℕ) (m n : ℕ) → m ≤ n → is_not_after stop m ≡ false
    → is_not_after stop n ≡ false
after_stop None m n up is = cc
after_stop (Some t) m n up is = grind (arith, nat_tests)

pub frames_up_to : (stop : Option ℕ) → IsUpTo (λ (r : Row). is_not_after stop r.moment)
frames_up_to stop = record { over = λ r q place moment off. after_stop stop r.moment q.moment moment off }

pub within_stop : (one stop : Option ℕ) (moment : ℕ) → one ≡ stop
    → not (is_not_after one moment) ≡ false → is_not_after stop moment ≡ true
within_stop one stop moment same test = rw (← same) (grind arith)

pub past_stop : (one stop : Option ℕ) (moment : ℕ) → one ≡ stop
    → not (is_not_after one moment) ≡ true → is_not_after stop moment ≡ false
past_stop one stop moment same test = rw (← same) (grind arith)

-- ---- notices

notices_later : (s : Selection) (entries : List Entry) (from to : ℕ) (r : Row) → from ≤ to
    → is_told_from s entries to r ≡ (is_told_from s entries from r && nat_le to r.place)
notices_later s entries from to r later = elim (cases_Bool (nat_le to r.place)) [
  | inl here ↦
      let also : nat_le from r.place ≡ true = grind (arith, nat_tests) in
      rw (here, also) (last_true _)
  | inr off ↦ rw off (last_false _)
]
  where
    last_true : (b : Bool) → b ≡ (b && true)
    last_true true = refl
    last_true false = refl

    last_false : (b : Bool) → false ≡ (b && false)
    last_false true = refl
    last_false false = refl

notices_reached : (s : Selection) (entries : List Entry) (from : ℕ) (r : Row)
    → is_told_from s entries from r ≡ true → from ≤ r.place
notices_reached s entries from r told =
    let here : nat_le from r.place ≡ true = front_of (nat_le from r.place) _ _ _ _ told in
    grind (arith, nat_tests)
  where
    front_of : (a b c d e : Bool) → (a && b && c && d && e) ≡ true → a ≡ true
    front_of true b c d e is = refl
    front_of false b c d e is = is

pub notices_from : (s : Selection) (entries : List Entry) → IsFrom (is_told_from s entries)
notices_from s entries = record {
  later = notices_later s entries;
  reached = notices_reached s entries;
}

pub notices_up_to : (until : ℕ) → IsUpTo (λ (r : Row). nat_le r.place until)
notices_up_to until = record { over = λ r q place moment off. grind (arith, nat_tests) }
