-- The next picked entry is that of the next frame's row or of the next notice's.
use Rattle.std.proofs.Common.{◌≡◌, ◌∙◌, ℕ, ◌+◌, ◌≤◌, Bool, true, false, min}
use Rattle.std.proofs.Common.{List, [], ◌∷◌, take, slice_get, Some, None, refl, ◌||◌}
use Rattle.std.proofs.Common.{inl, inr, ◌&&◌, nat_le, nat_lt, map, ap, sym, arith, Option}
use Rattle.std.proofs.Common.{option_map, not, subst}
use Rattle.std.specs.List.{filter, list_all, enumerate_from}
use Rattle.std.specs.Option.{option_or}
use Rattle.std.proofs.lemmas.Bool.{cases_lt, cases_Bool, and_parts}
use Rattle.std.proofs.lemmas.Bool.Decides.{nat_tests}
use Rattle.std.proofs.lemmas.List.Elements.{filter_agree}
use Rattle.std.proofs.lemmas.Option.{slice_get-map}
use Rattle.archive_terms.specs.Archive.{Entry, frame, loss_of_sync, production, seal, IsArchive}
use Rattle.archive_terms.specs.Archive.{is_storable, is_ordered}
use Rattle.archive_terms.specs.Selection.{Selection, is_picked, admits, is_notice, picked}
use Rattle.archive_terms.specs.Selection.{is_started, is_stop_closed}
use Rattle.archive_terms.specs.Continuity.{lost_of}
use Rattle.archive_index.specs.Next.{next_picked}
use Rattle.archive_index.specs.Rows.{rows_behind, rows_of, passes, is_wanted}
use Rattle.archive_index.specs.Walking.{is_told_from, sooner, lost_found, lost_told, since_behind}
use Rattle.archive_index.specs.declared.row.Row.{Row}
use Rattle.archive_index.proofs.RowsOf.{filter_both, admitted_rows, row_entry}

-- a test of places alone, among the entries that fit and among their rows
pub rows_by_place : (fits : Entry → Bool) (h : ℕ → Bool) (place lost : ℕ) (entries : List Entry)
    → map (λ (x : ℕ × Entry). x.0)
    (filter (λ x. fits x.1 && h x.0) (enumerate_from place entries))
    ≡ map (λ (r : Row). r.place) (filter (λ r. h r.place) (rows_behind fits place lost entries))
rows_by_place fits h place lost [] = refl
rows_by_place fits h place lost (e ∷ entries) =
    let rest = rows_by_place fits h (place + 1) (lost + lost_of e) entries in
    elim (cases_Bool (fits e)) [
      | inl is_so ↦ elim (cases_Bool (h place)) [
        | inl at ↦ rw (is_so, at, rest) refl
        | inr off ↦ rw (is_so, off, rest) refl
      ]
      | inr isnt ↦ rw (isnt, rest) refl
    ]

-- the lesser of two next places
abbrev pub lesser : Option ℕ → Option ℕ → Option ℕ
lesser None other = other
lesser (Some a) None = Some a
lesser (Some a) (Some b) = Some (min a b)

abbrev pub next_by : {X : Type 0} → (ℕ × X → Bool) → ℕ → List X → Option ℕ
next_by p n xs = option_map (λ x. x.0) (slice_get (filter p (enumerate_from n xs)) 0)

next_above : {X : Type 0} → (p : ℕ × X → Bool) (n : ℕ) (xs : List X) (k : ℕ)
    → next_by p n xs ≡ Some k → n ≤ k
next_above p n [] k is = cc
next_above p n (x ∷ xs) k is = elim (cases_Bool (p (n, x))) [
  | inl is_so ↦ let here = rw is_so at is in let same : n ≡ k = cc in omega arith
  | inr isnt ↦ let later = next_above p (n + 1) xs k (rw isnt at is) in omega arith
]

pub next_of_two : {X : Type 0} → (p q : ℕ × X → Bool) (n : ℕ) (xs : List X)
    → next_by (λ x. p x || q x) n xs ≡ lesser (next_by p n xs) (next_by q n xs)
next_of_two p q n [] = refl
next_of_two p q n (x ∷ xs) =
    let rest = next_of_two p q (n + 1) xs in
    elim (cases_Bool (p (n, x))) [
      | inl is_so ↦ elim (cases_Bool (q (n, x))) [
        | inl also ↦ rw (is_so, also) (grind arith)
        | inr only ↦ rw (is_so, only) (first (next_by q (n + 1) xs) refl)
      ]
      | inr isnt ↦ elim (cases_Bool (q (n, x))) [
        | inl other ↦ rw (isnt, other) (second (next_by p (n + 1) xs) refl)
        | inr none ↦ rw (isnt, none) rest
      ]
    ]
  where
    first : (k : Option ℕ) → next_by q (n + 1) xs ≡ k → Some n ≡ lesser (Some n) k
    first None is = refl
    first (Some k) is = let up = next_above q (n + 1) xs k is in ap (λ m. Some m) (omega arith)

    second : (k : Option ℕ) → next_by p (n + 1) xs ≡ k → Some n ≡ lesser k (Some n)
    second None is = refl
    second (Some k) is = let up = next_above p (n + 1) xs k is in ap (λ m. Some m) (omega arith)

-- ---- what is picked from a place on

-- the frames that are admitted from a place on, and the notices that are told
abbrev pub admits_from : Selection → ℕ → ℕ × Entry → Bool
admits_from s from x = nat_le from x.0 && admits s x.0 x.1

abbrev pub tells_at : Selection → List Entry → ℕ → ℕ → Bool
tells_at s entries from p =
    nat_le from p && s.notices && nat_le s.first p && is_started s (take p entries)
    && not (is_stop_closed s (take p entries))

abbrev pub tells_from : Selection → List Entry → ℕ → ℕ × Entry → Bool
tells_from s entries from x = is_notice x.1 && tells_at s entries from x.0

either_way : (a from tells notice first started unclosed : Bool)
    → ((a || (tells && notice && first && started && unclosed)) && from)
    ≡ ((from && a) || (notice && (from && tells && first && started && unclosed)))
either_way true true tells notice first started unclosed = refl
either_way true false tells notice first started unclosed = no_notice notice
  where
    no_notice : (n : Bool) → false ≡ (n && false)
    no_notice true = refl
    no_notice false = refl
either_way false true true notice first started unclosed = told notice first started unclosed
  where
    told : (n f s o : Bool) → ((true && n && f && s && o) && true)
        ≡ (false || (n && (true && true && f && s && o)))
    told true true true true = refl
    told true true true false = refl
    told true true false o = refl
    told true false s o = refl
    told false f s o = refl
either_way false true false notice first started unclosed = none notice
  where
    none : (n : Bool) → false ≡ (n && false)
    none true = refl
    none false = refl
either_way false false tells notice first started unclosed =
    none notice (tells && notice && first && started && unclosed)
  where
    none : (n b : Bool) → (b && false) ≡ (n && false)
    none true true = refl
    none true false = refl
    none false true = refl
    none false false = refl

picked_both : (s : Selection) (entries : List Entry) (from : ℕ)
    → filter (λ x. nat_le from x.0) (picked entries s)
    ≡ filter (λ x. admits_from s from x || tells_from s entries from x) (enumerate_from 0 entries)
picked_both s entries from =
    filter_both (λ x. is_picked s entries x.0 x.1) (λ x. nat_le from x.0) (enumerate_from 0 entries)
    ∙ filter_agree _ _ (λ (x : ℕ × Entry). either_way (admits s x.0 x.1) (nat_le from x.0) s.notices
    (is_notice x.1) (nat_le s.first x.0) (is_started s (take x.0 entries))
    (not (is_stop_closed s (take x.0 entries)))) (enumerate_from 0 entries)

first_of_map : {X : Type 0} → (place : X → ℕ) (xs : List X) (ys : List ℕ) → ys ≡ map place xs
    → slice_get ys 0 ≡ option_map place (slice_get xs 0)
first_of_map place xs ys is = rw (is, slice_get-map) refl

pub next_of_rows : (s : Selection) (entries : List Entry) (from : ℕ) → IsArchive entries
    → next_picked entries s from ≡ lesser
    (option_map (λ (r : Row). r.place)
    (slice_get (filter (is_wanted s from) (rows_of (passes s.filter) entries)) 0))
    (option_map (λ (r : Row). r.place)
    (slice_get (filter (is_told_from s entries from) (rows_of is_notice entries)) 0))
next_of_rows s entries from archive =
    let parts = and_parts (list_all is_storable entries) (is_ordered entries) archive in
    let frames : next_by (admits_from s from) 0 entries ≡ option_map (λ (r : Row). r.place)
    (slice_get (filter (is_wanted s from) (rows_of (passes s.filter) entries)) 0) =
    sym (slice_get-map (λ (x : ℕ × Entry). x.0) (filter (admits_from s from)
    (enumerate_from 0 entries)) 0)
    ∙ first_of_map (λ (r : Row). r.place)
    (filter (is_wanted s from) (rows_of (passes s.filter) entries)) _
    (admitted_rows s from 0 0 entries parts.0) in
    let notices : next_by (tells_from s entries from) 0 entries
    ≡ option_map (λ (r : Row). r.place)
    (slice_get (filter (is_told_from s entries from) (rows_of is_notice entries)) 0) =
    sym (slice_get-map (λ (x : ℕ × Entry). x.0) (filter (tells_from s entries from)
    (enumerate_from 0 entries)) 0)
    ∙ first_of_map (λ (r : Row). r.place)
    (filter (is_told_from s entries from) (rows_of is_notice entries)) _
    (rows_by_place is_notice (tells_at s entries from) 0 0 entries) in
    ap (λ xs. option_map (λ (x : ℕ × Entry). x.0) (slice_get xs 0)) (picked_both s entries from)
    ∙ next_of_two (admits_from s from) (tells_from s entries from) 0 entries
    ∙ rw (frames, notices) refl

-- ---- which of the two comes first

places : (frame notice : Option Row) → sooner notice frame ≡ None
    → lesser (option_map (λ (r : Row). r.place) frame) (option_map (λ (r : Row). r.place) notice)
    ≡ option_map (λ (r : Row). r.place) frame
places None None later = refl
places (Some f) None later = refl
places None (Some n) later = cc
places (Some f) (Some n) later = elim (cases_lt f.place n.place) [
  | inl before ↦ ap (λ m. Some m) (omega arith)
  | inr after ↦ let test : nat_lt f.place n.place ≡ false = grind (arith, nat_tests) in
      let two = rw test at later in cc
]

pub frame_sooner : (frame notice : Option Row) → sooner notice frame ≡ None
    → option_map (λ (r : Row). r.place) frame
    ≡ lesser (option_map (λ (r : Row). r.place) frame) (option_map (λ (r : Row). r.place) notice)
frame_sooner one other later = sym (places one other later)

pub notice_sooner : (frame notice : Option Row) (n : Row) → sooner notice frame ≡ Some n
    → (notice ≡ Some n) × (Some n.place
    ≡ lesser (option_map (λ (r : Row). r.place) frame) (option_map (λ (r : Row). r.place) notice))
    × ((f : Row) → frame ≡ Some f → n.place ≤ f.place)
notice_sooner one None n is = cc
notice_sooner None (Some m) n is = (is, ap (option_map (λ (r : Row). r.place)) (sym is), λ f none. cc)
notice_sooner (Some f) (Some m) n is = elim (cases_lt f.place m.place) [
  | inl before ↦ let test : nat_lt f.place m.place ≡ true = grind (arith, nat_tests) in
      let two = rw test at is in cc
  | inr after ↦ let test : nat_lt f.place m.place ≡ false = grind (arith, nat_tests) in
      let two : Some m ≡ Some n = rw test at is in
      let same : m ≡ n = cc in (
        two,
        rw (← same) (ap (λ p. Some p) (omega arith)),
        λ g here. let equal : f ≡ g = cc in rw (← same, ← equal) (omega arith),
      )
]

pub frame_before : (frame notice : Option Row) (f n : Row) → sooner notice frame ≡ None
    → frame ≡ Some f → notice ≡ Some n → f.place + 1 ≤ n.place
frame_before one other f n later is told =
    let both : sooner (Some n) (Some f) ≡ None = rw (is, told) at later in
    elim (cases_lt f.place n.place) [
      | inl before ↦ omega arith
      | inr after ↦ let test : nat_lt f.place n.place ≡ false = grind (arith, nat_tests) in
          let two = rw test at both in cc
    ]

-- ---- the entries of the two

pub frame_entry : (s : Selection) (entries : List Entry) (k : ℕ) (r : Row) (e : Entry)
    → slice_get (rows_of (passes s.filter) entries) k ≡ Some r → slice_get entries r.place ≡ Some e
    → passes s.filter e ≡ true
frame_entry s entries k r e at is =
    let h = row_entry (passes s.filter) entries k r at in
    let same : h.0 ≡ e = let two = rw h.1 at is in cc in rw (← same) h.2

pub notice_entry : (entries : List Entry) (k : ℕ) (r : Row) (e : Entry)
    → slice_get (rows_of is_notice entries) k ≡ Some r → slice_get entries r.place ≡ Some e
    → is_notice e ≡ true
notice_entry entries k r e at is =
    let h = row_entry is_notice entries k r at in
    let same : h.0 ≡ e = let two = rw h.1 at is in cc in rw (← same) h.2

-- no entry is both
pub apart : (s : Selection) (entries : List Entry) (i j : ℕ) (f n : Row)
    → slice_get (rows_of (passes s.filter) entries) i ≡ Some f
    → slice_get (rows_of is_notice entries) j ≡ Some n → n.place ≤ f.place
    → n.place + 1 ≤ f.place
apart s entries i j f n fi nj below = elim (cases_lt n.place f.place) [
  | inl before ↦ omega arith
  | inr after ↦
      let same : n.place ≡ f.place = omega arith in
      let one = row_entry (passes s.filter) entries i f fi in
      let other = row_entry is_notice entries j n nj in
      let there : slice_get entries f.place ≡ Some other.0 =
      subst (λ p. slice_get entries p ≡ Some other.0) same other.1 in
      let equal : one.0 ≡ other.0 = let two = rw one.1 at there in cc in
      let passes_too : passes s.filter other.0 ≡ true = rw (← equal) one.2 in
      never s other.0 passes_too other.2
]
  where
    never : {X : Type 0} → (s : Selection) (e : Entry) → passes s.filter e ≡ true
        → is_notice e ≡ true → X
    never s (frame f) one other = cc
    never s (loss_of_sync _) one other = cc
    never s (production _) one other = cc
    never s (seal _) one other = cc

pub frame_told : (s : Selection) (entries : List Entry) (since : Option ℕ) (place : ℕ) (e : Entry)
    → passes s.filter e ≡ true
    → (lost_told entries since place ≡ lost_found entries since place e)
    × (since_behind since place e ≡ Some place)
frame_told s entries since place (frame f) is = (refl, refl)
frame_told s entries since place (loss_of_sync _) is = cc
frame_told s entries since place (production _) is = cc
frame_told s entries since place (seal _) is = cc

pub notice_told : (entries : List Entry) (since : Option ℕ) (place : ℕ) (e : Entry)
    → is_notice e ≡ true
    → (0 ≡ lost_found entries since place e) × (since_behind since place e ≡ since)
notice_told entries since place (frame f) is = cc
notice_told entries since place (loss_of_sync _) is = (refl, left since)
  where
    left : (o : Option ℕ) → option_or None o ≡ o
    left None = refl
    left (Some x) = refl
notice_told entries since place (production _) is = (refl, left since)
  where
    left : (o : Option ℕ) → option_or None o ≡ o
    left None = refl
    left (Some x) = refl
notice_told entries since place (seal _) is = cc
