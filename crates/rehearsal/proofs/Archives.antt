-- The entries of a rehearsal are an archive.
use Rattle.std.proofs.Common.{◌≡◌, ℕ, zero, suc, ◌+◌, ◌-◌, ◌*◌, ◌%◌, ◌==◌, ◌≤◌, ◌<◌, Bool, true}
use Rattle.std.proofs.Common.{false}
use Rattle.std.proofs.Common.{cond, ◌&&◌, nat_le, nat_lt, Some, List}
use Rattle.std.proofs.Common.{[]}
use Rattle.std.proofs.Common.{◌∷◌, ◌++◌, length, map, refl, sym, ap, ◌∙◌, add-one, arith}
use Rattle.std.proofs.lemmas.Bool.{and_from, le-leb}
use Rattle.std.proofs.lemmas.Bool.Decides.{nat_tests}
use Rattle.std.proofs.lemmas.List.FromFn.{map-range_with_len_more}
use Rattle.std.specs.List.{list_all, range_with_len}
use Rattle.cds_time.specs.Moment.{moment_of}
use Rattle.archive_terms.specs.Archive.{Entry, seal, is_moment, is_valid, is_short}
use Rattle.archive_terms.specs.Archive.{is_storable, may_precede, keeps_order}
use Rattle.archive_terms.specs.Archive.{is_archive, may_follow}
use Rattle.sle_numbers.specs.FrameQuality.{number_of}
use Rattle.sle_numbers.specs.declared.frame_quality.FrameQuality.TheVariants.{Good, Erred}
use Rattle.rehearsal.specs.Frames.{time_at, quality_at, octets_at, length-octets_at, entry_at}
use Rattle.rehearsal.specs.Frames.{frames, archive}

-- the moment of frame i
abbrev pub moment_at : ℕ → ℕ
moment_at i = (1728000000000 + 10 * i) * 1000000000

pub time_is : (i : ℕ) → i < 20000 → moment_of (time_at i) ≡ Some (moment_at i)
time_is i small =
    let in_day : nat_lt (10 * i) 86400000 ≡ true = grind (arith, nat_tests) in
    rw in_day (ap Some (omega arith))

time_good : (i : ℕ) → i < 20000 → is_moment (time_at i) ≡ true
time_good i small = rw (time_is i small) (grind (arith, nat_tests))

quality_good : (i : ℕ) → nat_le (number_of (quality_at i)) 2 ≡ true
quality_good i = by_case (i % 7 == 3)
  where
    by_case : (b : Bool) → nat_le (number_of (cond b Erred Good)) 2 ≡ true
    by_case true = refl
    by_case false = refl

some_octets : (i : ℕ) → nat_le 1 (length (octets_at i)) ≡ true
some_octets i = rw (length-octets_at i) refl

few_octets : (i : ℕ) → nat_le (length (octets_at i)) 65536 ≡ true
few_octets i = rw (length-octets_at i) refl

pub frame_valid : (i : ℕ) → i < 20000 → is_valid (entry_at i) ≡ true
frame_valid i small = rw (time_good i small, quality_good i, some_octets i) refl

pub frame_short : (i : ℕ) → is_short (entry_at i) ≡ true
frame_short i = few_octets i

pub frame_storable : (i : ℕ) → i < 20000 → is_storable (entry_at i) ≡ true
frame_storable i small = and_from (is_valid (entry_at i)) (is_short (entry_at i))
    (frame_valid i small) (few_octets i)

pub seal_valid : (i : ℕ) → i < 20000 → is_valid (seal (time_at i)) ≡ true
seal_valid i small = time_good i small

-- ---- the order of times

frames_in_order : (i j : ℕ) → i ≤ j → j < 20000 → may_precede (entry_at i) (entry_at j) ≡ true
frames_in_order i j le small =
    let first : i < 20000 = omega arith in
    let ordered : nat_le (moment_at i) (moment_at j) ≡ true =
    le-leb (moment_at i) (moment_at j) (omega arith) in
    rw (time_is i first, time_is j small, ordered) refl

seal_in_order : (i j : ℕ) → i < 20000 → may_precede (entry_at i) (seal (time_at j)) ≡ true
seal_in_order i j small = rw (time_is i small) refl

all_before : (entry : Entry) (a n : ℕ)
    → ((i : ℕ) → i < a + n → may_precede (entry_at i) entry ≡ true)
    → list_all (λ earlier. may_precede earlier entry) (map entry_at (range_with_len a n)) ≡ true
all_before entry a zero before = refl
all_before entry a (suc n) before =
    and_from (may_precede (entry_at a) entry)
    (list_all (λ earlier. may_precede earlier entry) (map entry_at (range_with_len (a + 1) n)))
    (before a (omega arith)) (all_before entry (a + 1) n (λ i below. before i (omega arith)))

-- an archive grows by an entry that may follow it
abbrev pub Grows : Type 0
Grows = (a : List Entry) (e : Entry) → is_archive (a ++ e ∷ []) ≡ (is_archive a && may_follow a e)

grown : Grows → (a : List Entry) (e : Entry) → is_archive a ≡ true → is_storable e ≡ true
    → keeps_order a e ≡ true → is_archive (a ++ e ∷ []) ≡ true
grown grows a e archive storable ordered =
    grows a e
    ∙ and_from (is_archive a) (may_follow a e) archive
    (and_from (is_storable e) (keeps_order a e) storable ordered)

pub frames-more : (n : ℕ) → frames (n + 1) ≡ frames n ++ entry_at n ∷ []
frames-more n = map-range_with_len_more entry_at 0 n n (omega arith)

pub frames_follow : (n : ℕ) → n < 20000 → keeps_order (frames n) (entry_at n) ≡ true
frames_follow n small =
    all_before (entry_at n) 0 n (λ i below. frames_in_order i n (omega arith) small)

pub seal_follows : (n j : ℕ) → n ≤ 20000 → keeps_order (frames n) (seal (time_at j)) ≡ true
seal_follows n j small =
    all_before (seal (time_at j)) 0 n (λ i below. seal_in_order i j (omega arith))

pub frames_are : Grows → (n : ℕ) → n ≤ 20000 → is_archive (frames n) ≡ true
frames_are grows zero small = refl
frames_are grows (suc n) small =
    let more : frames (suc n) ≡ frames n ++ entry_at n ∷ [] =
    ap frames (sym (add-one n)) ∙ frames-more n in
    ap is_archive more
    ∙ grown grows (frames n) (entry_at n) (frames_are grows n (omega arith))
    (frame_storable n (omega arith)) (frames_follow n (omega arith))

pub archive_is : Grows → (n : ℕ) → 1 ≤ n → n ≤ 20000 → is_archive (archive n) ≡ true
archive_is grows n some few =
    grown grows (frames n) (seal (time_at (n - 1))) (frames_are grows n few)
    (and_from (is_valid (seal (time_at (n - 1)))) true (seal_valid (n - 1) (omega arith)) refl)
    (seal_follows n (n - 1) few)
