-- What a START picks grows with the archive, and no longer once its stop is closed.
use Rattle.std.proofs.Common.{◌≡◌, ℕ, ◌+◌, ◌<◌, ◌≤◌, Bool, true, false, not, ◌&&◌, ◌||◌, nat_le}
use Rattle.std.proofs.Common.{nat_lt, ◌-◌, List, [], ◌∷◌, ◌++◌, length, take, Option, Some, None}
use Rattle.std.proofs.Common.{refl, ap, sym, ◌∙◌, arith, inl, inr, add-zero}
use Rattle.std.specs.List.{filter, list_all, enumerate_from}
use Rattle.std.proofs.lemmas.List.{take-append-le, take_at, append-nil}
use Rattle.std.proofs.lemmas.List.Elements.{filter-append}
use Rattle.std.proofs.lemmas.List.Folds.{list_all-append, list_any-append}
use Rattle.std.proofs.lemmas.Bool.{and_parts, or_cases, leb-true, ltb-true, lt-ltb, lt-leb, or_left}
use Rattle.std.proofs.lemmas.Bool.{and_from, or_from, and_right, not_from_true}
use Rattle.std.proofs.Math.Seq.{take-append-add}
use Rattle.std.specs.Option.{option_map_or}
use Rattle.cds_time.specs.Moment.{moment_of}
use Rattle.archive_terms.specs.Archive.{Entry, frame, loss_of_sync, production, seal, frame_time}
use Rattle.archive_terms.specs.Archive.{seal_time, is_from, is_above, may_precede, is_storable}
use Rattle.archive_terms.specs.Archive.{is_ordered, is_archive, closes, is_closed}
use Rattle.archive_terms.specs.Selection.{Selection, fits, is_not_before, is_not_after, is_between}
use Rattle.archive_terms.specs.Selection.{is_notice, is_started, admits, is_stop_closed, is_told}
use Rattle.archive_terms.specs.Selection.{is_picked, picked}

enumerate_from-append : {X : Type 0} → (n : ℕ) (xs ys : List X)
    → enumerate_from n (xs ++ ys) ≡ enumerate_from n xs ++ enumerate_from (n + length xs) ys
enumerate_from-append n [] ys = ap (λ m. enumerate_from m ys) (sym (add-zero n))
enumerate_from-append n (x ∷ xs) ys =
    let same : n + 1 + length xs ≡ n + length (x ∷ xs) = omega arith in
    let rest : enumerate_from (n + 1) (xs ++ ys)
    ≡ enumerate_from (n + 1) xs ++ enumerate_from (n + 1 + length xs) ys =
    enumerate_from-append (n + 1) xs ys in
    cc

-- two tests that agree below a bound leave the same
filter_same : {X : Type 0} → (p q : ℕ × X → Bool) (bound n : ℕ) (xs : List X)
    → n + length xs ≤ bound
    → ((k : ℕ) (x : X) → k < bound → p (k, x) ≡ q (k, x))
    → filter p (enumerate_from n xs) ≡ filter q (enumerate_from n xs)
filter_same p q bound n [] fits same = refl
filter_same p q bound n (x ∷ xs) fits same =
    let here : p (n, x) ≡ q (n, x) = same n x (omega arith) in
    let rest : filter p (enumerate_from (n + 1) xs) ≡ filter q (enumerate_from (n + 1) xs) =
    filter_same p q bound (n + 1) xs (omega arith) same in
    cc

-- a test that fails at each element from a place on leaves nothing
filter_none : {X : Type 0} → (p : ℕ × X → Bool) (kind : X → Bool) (from n : ℕ) (xs : List X)
    → from ≤ n
    → list_all kind xs ≡ true → ((k : ℕ) (x : X) → from ≤ k → kind x ≡ true → p (k, x) ≡ false)
    → filter p (enumerate_from n xs) ≡ []
filter_none p kind from n [] late all fails = refl
filter_none p kind from n (x ∷ xs) late all fails =
    let parts : (kind x ≡ true) × (list_all kind xs ≡ true) =
    and_parts (kind x) (list_all kind xs) all in
    let here : p (n, x) ≡ false = fails n x late parts.0 in
    let rest : filter p (enumerate_from (n + 1) xs) ≡ [] =
    filter_none p kind from (n + 1) xs (omega arith) parts.1 fails in
    rw (here, rest)

-- what is picked of the entries behind `a`
abbrev pub picked_behind : List Entry → List Entry → Selection → List (ℕ × Entry)
picked_behind a b s = filter (λ x. is_picked s (a ++ b) x.0 x.1) (enumerate_from (0 + length a) b)

pub picked-append : (a b : List Entry) (s : Selection)
    → picked (a ++ b) s ≡ picked a s ++ picked_behind a b s
picked-append a b s =
    let p : ℕ × Entry → Bool = λ x. is_picked s (a ++ b) x.0 x.1 in
    let q : ℕ × Entry → Bool = λ x. is_picked s a x.0 x.1 in
    let agree : (k : ℕ) (x : Entry) → k < length a → p (k, x) ≡ q (k, x) =
    λ k x below. ap (λ before. admits s k x || is_told s before k x)
    (take-append-le k a b (omega arith)) in
    let front : filter p (enumerate_from 0 a) ≡ filter q (enumerate_from 0 a) =
    filter_same p q (length a) 0 a (omega arith) agree in
    ap (filter p) (enumerate_from-append 0 a b)
    ∙ filter-append p (enumerate_from 0 a) (enumerate_from (0 + length a) b)
    ∙ ap (λ xs. xs ++ picked_behind a b s) front

pub picked-prefix : (a b : List Entry) (s : Selection)
    → take (length (picked a s)) (picked (a ++ b) s) ≡ picked a s
picked-prefix a b s =
    ap (take (length (picked a s))) (picked-append a b s)
    ∙ take_at (picked a s) (picked_behind a b s) (length (picked a s)) refl

-- an entry that is no frame up to the stop
abbrev pub is_past : ℕ → Entry → Bool
is_past stop entry = option_map_or (λ t. nat_lt stop t) (frame_time entry) true

past_behind : (stop : ℕ) (x y : Entry) → closes stop x ≡ true → may_precede x y ≡ true
    → is_past stop y ≡ true
past_behind stop x y closed after =
    let outer : ((is_from (frame_time x) (frame_time y) && is_above (seal_time x) (frame_time y))
    ≡ true) × (is_from (seal_time x) (seal_time y) ≡ true) =
    and_parts (is_from (frame_time x) (frame_time y) && is_above (seal_time x) (frame_time y))
    (is_from (seal_time x) (seal_time y)) after in
    let parts : (is_from (frame_time x) (frame_time y) ≡ true)
    × (is_above (seal_time x) (frame_time y) ≡ true) =
    and_parts (is_from (frame_time x) (frame_time y)) (is_above (seal_time x) (frame_time y))
    outer.0 in
    elim (or_cases (option_map_or (λ t. nat_lt stop t) (frame_time x) false)
    (option_map_or (λ t. nat_le stop t) (seal_time x) false) closed) [
      | inl by_frame ↦ above_frame (frame_time x) (frame_time y) by_frame parts.0
      | inr by_seal ↦ above_seal (seal_time x) (frame_time y) by_seal parts.1
    ]
  where
    above_frame : (t u : Option ℕ) → option_map_or (λ t. nat_lt stop t) t false ≡ true
        → is_from t u ≡ true
        → option_map_or (λ u. nat_lt stop u) u true ≡ true
    above_frame t None closed after = refl
    above_frame None (Some u) closed after = cc
    above_frame (Some t) (Some u) closed after =
        lt-ltb stop u (omega (arith, ltb-true stop t closed, leb-true t u after))

    above_seal : (t u : Option ℕ) → option_map_or (λ t. nat_le stop t) t false ≡ true
        → is_above t u ≡ true
        → option_map_or (λ u. nat_lt stop u) u true ≡ true
    above_seal t None closed after = refl
    above_seal None (Some u) closed after = cc
    above_seal (Some t) (Some u) closed after =
        lt-ltb stop u (omega (arith, leb-true stop t closed, ltb-true t u after))

all_past : (stop : ℕ) (x : Entry) (ys : List Entry) → closes stop x ≡ true
    → list_all (may_precede x) ys ≡ true → list_all (is_past stop) ys ≡ true
all_past stop x [] closed after = refl
all_past stop x (y ∷ ys) closed after =
    let parts : (may_precede x y ≡ true) × (list_all (may_precede x) ys ≡ true) =
    and_parts (may_precede x y) (list_all (may_precede x) ys) after in
    and_from (is_past stop y) (list_all (is_past stop) ys) (past_behind stop x y closed parts.0)
    (all_past stop x ys closed parts.1)

-- behind a list that closes a stop an archive has no frame up to it
past_closed : (stop : ℕ) (a b : List Entry) → is_closed a stop ≡ true → is_ordered (a ++ b) ≡ true
    → list_all (is_past stop) b ≡ true
past_closed stop [] b closed ordered = cc
past_closed stop (x ∷ a) b closed ordered =
    let parts : (list_all (may_precede x) (a ++ b) ≡ true) × (is_ordered (a ++ b) ≡ true) =
    and_parts (list_all (may_precede x) (a ++ b)) (is_ordered (a ++ b)) ordered in
    let behind : list_all (may_precede x) b ≡ true =
    (and_parts (list_all (may_precede x) a) (list_all (may_precede x) b)
    (sym (list_all-append (may_precede x) a b) ∙ parts.0)).1 in
    elim (or_cases (closes stop x) (is_closed a stop) closed) [
      | inl here ↦ all_past stop x b here behind
      | inr later ↦ past_closed stop a b later parts.1
    ]

pub is_closed-append : (stop : ℕ) (a b : List Entry) → is_closed a stop ≡ true
    → is_closed (a ++ b) stop ≡ true
is_closed-append stop a b closed =
    list_any-append (closes stop) a b ∙ or_left (is_closed a stop) (is_closed b stop) closed

-- with the stop known and closed by `a`, no entry behind `a` is picked
not_picked_past : (s : Selection) (stop : ℕ) (a b : List Entry) (k : ℕ) (x : Entry)
    → s.stop ≡ Some stop
    → is_closed a stop ≡ true
    → length a ≤ k → is_past stop x ≡ true → is_picked s (a ++ b) k x ≡ false
not_picked_past s stop a b k x known closed behind past =
    or_from (admits s k x) (is_told s (take k (a ++ b)) k x) (not_admitted x past)
    (and_right (s.notices && is_notice x && nat_le s.first k && is_started s (take k (a ++ b)))
    (not (is_stop_closed s (take k (a ++ b))))
    (not_from_true (is_stop_closed s (take k (a ++ b))) closed_before))
  where
    closed_before : is_stop_closed s (take k (a ++ b)) ≡ true
    closed_before =
        let split : take k (a ++ b) ≡ a ++ take (k - length a) b =
        ap (λ n. take n (a ++ b)) (let e : k ≡ length a + (k - length a) = omega arith in e)
        ∙ take-append-add a b (k - length a) in
        ap (λ o. option_map_or (is_closed (take k (a ++ b))) o false) known
        ∙ ap (λ before. is_closed before stop) split
        ∙ is_closed-append stop a (take (k - length a) b) closed

    not_between : (o t : Option ℕ) → o ≡ Some stop
        → option_map_or (λ u. nat_lt stop u) t true ≡ true
        → option_map_or (λ u. is_not_before s.start u && is_not_after o u) t false ≡ false
    not_between o None known past = refl
    not_between o (Some u) known past =
        and_right (is_not_before s.start u) (is_not_after o u) (ap (λ o. is_not_after o u) known
        ∙ lt-leb u stop (ltb-true stop u past))

    not_admitted : (x : Entry) → is_past stop x ≡ true → admits s k x ≡ false
    not_admitted (frame f) past =
        and_right (nat_le s.first k && fits s.filter f) (is_between s (moment_of f.ert))
        (not_between s.stop (moment_of f.ert) known past)
    not_admitted (loss_of_sync l) past = refl
    not_admitted (production p) past = refl
    not_admitted (seal t) past = refl

pub nothing_behind : (a b : List Entry) (s : Selection) (stop : ℕ) → s.stop ≡ Some stop
    → is_closed a stop ≡ true
    → is_archive (a ++ b) ≡ true → picked_behind a b s ≡ []
nothing_behind a b s stop known closed archive =
    filter_none (λ x. is_picked s (a ++ b) x.0 x.1) (is_past stop) (length a) (0 + length a) b
    (omega arith)
    (past_closed stop a b closed (and_parts (list_all is_storable (a ++ b)) (is_ordered (a ++ b))
    archive).1) (λ k x late past. not_picked_past s stop a b k x known closed late past)

pub picked_is_final_lem : (a b : List Entry) (s : Selection) (stop : ℕ) → s.stop ≡ Some stop
    → is_closed a stop ≡ true
    → is_archive (a ++ b) ≡ true → picked (a ++ b) s ≡ picked a s
picked_is_final_lem a b s stop known closed archive =
    picked-append a b s ∙ ap (λ xs. picked a s ++ xs)
    (nothing_behind a b s stop known closed archive)
    ∙ append-nil (picked a s)

-- a closed stop is a known one
pub stop_known : (s : Selection) (a : List Entry) → is_stop_closed s a ≡ true
    → (stop : ℕ) × (s.stop ≡ Some stop) × (is_closed a stop ≡ true)
stop_known s a = of_option s.stop
  where
    of_option : (o : Option ℕ) → option_map_or (is_closed a) o false ≡ true
        → (stop : ℕ) × (o ≡ Some stop) × (is_closed a stop ≡ true)
    of_option None closed = cc
    of_option (Some stop) closed = (stop, refl, closed)

pub is_stop_closed-append : (s : Selection) (a b : List Entry) → is_stop_closed s a ≡ true
    → is_stop_closed s (a ++ b) ≡ true
is_stop_closed-append s a b closed =
    let known : (stop : ℕ) × (s.stop ≡ Some stop) × (is_closed a stop ≡ true) =
    stop_known s a closed in
    ap (λ o. option_map_or (is_closed (a ++ b)) o false) known.1
    ∙ is_closed-append known.0 a b known.2

is_ordered-append_left : (a b : List Entry) → is_ordered (a ++ b) ≡ true → is_ordered a ≡ true
is_ordered-append_left [] b ordered = refl
is_ordered-append_left (x ∷ a) b ordered =
    let parts : (list_all (may_precede x) (a ++ b) ≡ true) × (is_ordered (a ++ b) ≡ true) =
    and_parts (list_all (may_precede x) (a ++ b)) (is_ordered (a ++ b)) ordered in
    and_from (list_all (may_precede x) a) (is_ordered a)
    (and_parts (list_all (may_precede x) a) (list_all (may_precede x) b)
    (sym (list_all-append (may_precede x) a b) ∙ parts.0)).0
    (is_ordered-append_left a b parts.1)

pub is_archive-append_left : (a b : List Entry) → is_archive (a ++ b) ≡ true → is_archive a ≡ true
is_archive-append_left a b archive =
    let parts : (list_all is_storable (a ++ b) ≡ true) × (is_ordered (a ++ b) ≡ true) =
    and_parts (list_all is_storable (a ++ b)) (is_ordered (a ++ b)) archive in
    and_from (list_all is_storable a) (is_ordered a)
    (and_parts (list_all is_storable a) (list_all is_storable b)
    (sym (list_all-append is_storable a b) ∙ parts.0)).0
    (is_ordered-append_left a b parts.1)

-- without notices only admitted frames are picked
pub picked-frames : (a : List Entry) (s : Selection) → s.notices ≡ false
    → picked a s ≡ filter (λ x. admits s x.0 x.1) (enumerate_from 0 a)
picked-frames a s none =
    filter_same (λ x. is_picked s a x.0 x.1) (λ x. admits s x.0 x.1) (length a) 0 a (omega arith)
    (λ k x below.
    let before : List Entry = take k a in
    let silent : is_told s before k x ≡ false =
    ap (λ b. b && is_notice x && nat_le s.first k && is_started s before
    && not (is_stop_closed s before)) none in
    ap (λ b. admits s k x || b) silent ∙ or_nothing (admits s k x))
  where
    or_nothing : (b : Bool) → (b || false) ≡ b
    or_nothing true = refl
    or_nothing false = refl
