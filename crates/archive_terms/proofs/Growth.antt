-- An archive and what is picked of it after one more entry.
use Rattle.std.proofs.Common.{◌≡◌, ℕ, ◌≤◌, Bool, true, false, cond, ◌&&◌, ◌||◌, nat_lt, nat_le}
use Rattle.std.proofs.Common.{Option, Some, None, arith, List, [], ◌∷◌, ◌++◌, length, take, refl}
use Rattle.std.proofs.Common.{ap, sym, ◌∙◌, zero-add}
use Rattle.std.specs.List.{list_all}
use Rattle.std.proofs.lemmas.List.{take_at}
use Rattle.std.proofs.lemmas.List.Folds.{list_all-append}
use Rattle.std.specs.Option.{option_or, option_map_or}
use Rattle.std.proofs.lemmas.Bool.{and_parts, and_from, false≢true, le-leb, lt-ltb, leb-true}
use Rattle.std.proofs.lemmas.Bool.{ltb-true}
use Rattle.archive_terms.specs.Archive.{Entry, is_storable, may_precede, keeps_order, is_ordered}
use Rattle.archive_terms.specs.Archive.{is_archive, may_follow, frame_time, seal_time, last_time}
use Rattle.archive_terms.specs.Archive.{is_from, is_above, is_in_order, is_closed}
use Rattle.archive_terms.specs.Selection.{Selection, admits, is_told, picked}
use Rattle.archive_terms.proofs.Picks.{picked-append}

regrouped : (l m o k : Bool) → ((l && (m && true)) && (o && k)) ≡ ((l && o) && (m && k))
regrouped false m o k = refl
regrouped true true o k = refl
regrouped true false true k = refl
regrouped true false false k = refl

pub is_ordered-push : (a : List Entry) (e : Entry)
    → is_ordered (a ++ e ∷ []) ≡ (is_ordered a && keeps_order a e)
is_ordered-push [] e = refl
is_ordered-push (x ∷ a) e =
    ap (λ b. b && is_ordered (a ++ e ∷ [])) (list_all-append (may_precede x) a (e ∷ []))
    ∙ ap (λ b. (list_all (may_precede x) a && (may_precede x e && true)) && b) (is_ordered-push a e)
    ∙ regrouped (list_all (may_precede x) a) (may_precede x e) (is_ordered a) (keeps_order a e)

pub is_archive-push : (a : List Entry) (e : Entry)
    → is_archive (a ++ e ∷ []) ≡ (is_archive a && may_follow a e)
is_archive-push a e =
    ap (λ b. b && is_ordered (a ++ e ∷ [])) (list_all-append is_storable a (e ∷ []))
    ∙ ap (λ b. (list_all is_storable a && (is_storable e && true)) && b) (is_ordered-push a e)
    ∙ regrouped (list_all is_storable a) (is_storable e) (is_ordered a) (keeps_order a e)

pub picked-push : (a : List Entry) (e : Entry) (s : Selection)
    → picked (a ++ e ∷ []) s ≡ picked a s ++ cond (admits s (length a) e
    || is_told s a (length a) e) ((length a, e) ∷ []) []
picked-push a e s =
    let one : ℕ → List Entry → List (ℕ × Entry) =
    λ k before. cond (admits s k e || is_told s before k e) ((k, e) ∷ []) [] in
    picked-append a (e ∷ []) s
    ∙ ap (λ k. picked a s ++ one k (take k (a ++ e ∷ []))) (zero-add (length a))
    ∙ ap (λ before. picked a s ++ one (length a) before) (take_at a (e ∷ []) (length a) refl)

or_false : (b : Bool) → (b || false) ≡ b
or_false true = refl
or_false false = refl

and_true : (b : Bool) → (b && true) ≡ b
and_true true = refl
and_true false = refl

-- a test that a stronger one makes needless
absorbed : (q r : Bool) → (r ≡ true → q ≡ true) → (q && r) ≡ r
absorbed true r implies = refl
absorbed false true implies = absurd (false≢true (implies refl))
absorbed false false implies = refl

-- being at or above a last time and one more is being at or above the last of them
from_last : (last here next : Option ℕ) → is_from last here ≡ true
    → (is_from last next && is_from here next) ≡ is_from (option_or here last) next
from_last last None next before = and_true (is_from last next)
from_last None (Some u) next before = refl
from_last (Some t) (Some u) None before = refl
from_last (Some t) (Some u) (Some v) before =
    absorbed (nat_le t v) (nat_le u v) (λ later.
    le-leb t v (omega (arith, leb-true t u before, leb-true u v later)))

above_last : (last here next : Option ℕ) → is_from last here ≡ true
    → (is_above last next && is_above here next) ≡ is_above (option_or here last) next
above_last last None next before = and_true (is_above last next)
above_last None (Some u) next before = refl
above_last (Some t) (Some u) None before = refl
above_last (Some t) (Some u) (Some v) before =
    absorbed (nat_lt t v) (nat_lt u v) (λ later.
    lt-ltb t v (omega (arith, leb-true t u before, ltb-true u v later)))

by_pairs : (a b c d e f : Bool) → ((a && b && c) && (d && e && f))
    ≡ ((a && d) && (b && e) && (c && f))
by_pairs false b c d e f = refl
by_pairs true false c true e f = refl
by_pairs true false c false e f = refl
by_pairs true true false true true f = refl
by_pairs true true false true false f = refl
by_pairs true true false false e f = refl
by_pairs true true true d e f = refl

-- being in order behind one more entry
order_behind : (last_frame last_seal : Option ℕ) (x e : Entry)
    → is_in_order last_frame last_seal x ≡ true
    → (is_in_order last_frame last_seal e && may_precede x e)
    ≡ is_in_order (option_or (frame_time x) last_frame) (option_or (seal_time x) last_seal) e
order_behind lf ls x e here =
    let outer : ((is_from lf (frame_time x) && is_above ls (frame_time x)) ≡ true)
    × (is_from ls (seal_time x) ≡ true) =
    and_parts (is_from lf (frame_time x) && is_above ls (frame_time x)) (is_from ls (seal_time x))
    here in
    let frames : is_from lf (frame_time x) ≡ true =
    (and_parts (is_from lf (frame_time x)) (is_above ls (frame_time x)) outer.0).0 in
    by_pairs (is_from lf (frame_time e)) (is_above ls (frame_time e)) (is_from ls (seal_time e))
    (is_from (frame_time x) (frame_time e)) (is_above (seal_time x) (frame_time e))
    (is_from (seal_time x) (seal_time e))
    ∙ ap (λ b. b && (is_above ls (frame_time e) && is_above (seal_time x) (frame_time e))
    && (is_from ls (seal_time e) && is_from (seal_time x) (seal_time e)))
    (from_last lf (frame_time x) (frame_time e) frames)
    ∙ ap (λ b. is_from (option_or (frame_time x) lf) (frame_time e) && b
    && (is_from ls (seal_time e) && is_from (seal_time x) (seal_time e)))
    (above_last ls (seal_time x) (frame_time e) outer.1)
    ∙ ap (λ b. is_from (option_or (frame_time x) lf) (frame_time e)
    && is_above (option_or (seal_time x) ls) (frame_time e) && b)
    (from_last ls (seal_time x) (seal_time e) outer.1)

all_behind : (last_frame last_seal : Option ℕ) (x : Entry) (a : List Entry)
    → is_in_order last_frame last_seal x ≡ true
    → list_all (is_in_order last_frame last_seal) a ≡ true → list_all (may_precede x) a ≡ true
    → list_all (is_in_order (option_or (frame_time x) last_frame)
    (option_or (seal_time x) last_seal)) a ≡ true
all_behind lf ls x [] here ordered after = refl
all_behind lf ls x (y ∷ a) here ordered after =
    let o : (is_in_order lf ls y ≡ true) × (list_all (is_in_order lf ls) a ≡ true) =
    and_parts (is_in_order lf ls y) (list_all (is_in_order lf ls) a) ordered in
    let f : (may_precede x y ≡ true) × (list_all (may_precede x) a ≡ true) =
    and_parts (may_precede x y) (list_all (may_precede x) a) after in
    and_from (is_in_order (option_or (frame_time x) lf) (option_or (seal_time x) ls) y)
    (list_all (is_in_order (option_or (frame_time x) lf) (option_or (seal_time x) ls)) a)
    (sym (order_behind lf ls x y here) ∙ and_from (is_in_order lf ls y) (may_precede x y) o.0 f.0)
    (all_behind lf ls x a here o.1 f.1)

and_assoc : (p q r : Bool) → (p && (q && r)) ≡ ((p && q) && r)
and_assoc true q r = refl
and_assoc false q r = refl

order_after : (last_frame last_seal : Option ℕ) (a : List Entry) (e : Entry)
    → list_all (is_in_order last_frame last_seal) a ≡ true → is_ordered a ≡ true
    → (is_in_order last_frame last_seal e && keeps_order a e)
    ≡ is_in_order (last_time frame_time last_frame a) (last_time seal_time last_seal a) e
order_after lf ls [] e behind ordered = and_true (is_in_order lf ls e)
order_after lf ls (x ∷ a) e behind ordered =
    let o : (is_in_order lf ls x ≡ true) × (list_all (is_in_order lf ls) a ≡ true) =
    and_parts (is_in_order lf ls x) (list_all (is_in_order lf ls) a) behind in
    let r : (list_all (may_precede x) a ≡ true) × (is_ordered a ≡ true) =
    and_parts (list_all (may_precede x) a) (is_ordered a) ordered in
    and_assoc (is_in_order lf ls e) (may_precede x e) (keeps_order a e)
    ∙ ap (λ b. b && keeps_order a e) (order_behind lf ls x e o.0)
    ∙ order_after (option_or (frame_time x) lf) (option_or (seal_time x) ls) a e
    (all_behind lf ls x a o.0 o.1 r.0) r.1

-- behind nothing each entry is in order
ordered_first : (a : List Entry) → list_all (is_in_order None None) a ≡ true
ordered_first [] = refl
ordered_first (x ∷ a) = ordered_first a

pub keeps_order-by_times : (a : List Entry) (e : Entry) → is_ordered a ≡ true
    → keeps_order a e ≡ is_in_order (last_time frame_time None a) (last_time seal_time None a) e
keeps_order-by_times a e ordered = order_after None None a e (ordered_first a) ordered

pub may_follow-by_times : (a : List Entry) (e : Entry) → is_archive a ≡ true
    → may_follow a e ≡ (is_storable e && is_in_order (last_time frame_time None a)
    (last_time seal_time None a) e)
may_follow-by_times a e archive =
    ap (λ b. is_storable e && b) (keeps_order-by_times a e
    (and_parts (list_all is_storable a) (is_ordered a) archive).1)

-- a test of the last of two times, of which the later one passes where the earlier one does
closes_last : (test : ℕ → Bool) → ((t u : ℕ) → t ≤ u → test t ≡ true → test u ≡ true)
    → (last here : Option ℕ)
    → is_from last here ≡ true
    → (option_map_or test last false || option_map_or test here false)
    ≡ option_map_or test (option_or here last) false
closes_last test up last None before = or_false (option_map_or test last false)
closes_last test up None (Some u) before = refl
closes_last test up (Some t) (Some u) before =
    met (test t) (test u) (λ passes. up t u (leb-true t u before) passes)
  where
    met : (p q : Bool) → (p ≡ true → q ≡ true) → (p || q) ≡ q
    met true q implies = sym (implies refl)
    met false q implies = refl

or_pairs : (p q r s t : Bool) → ((p || q) || ((r || s) || t)) ≡ (((p || r) || (q || s)) || t)
or_pairs true q r s t = refl
or_pairs false true true s t = refl
or_pairs false true false s t = refl
or_pairs false false r s t = refl

-- whether a last frame and a last seal at these times close a stop
abbrev closed_by : ℕ → Option ℕ → Option ℕ → Bool
closed_by stop lf ls = option_map_or (λ t. nat_lt stop t) lf false
    || option_map_or (λ t. nat_le stop t) ls false

closed_after : (stop : ℕ) (lf ls : Option ℕ) (a : List Entry)
    → list_all (is_in_order lf ls) a ≡ true → is_ordered a ≡ true
    → (closed_by stop lf ls || is_closed a stop)
    ≡ closed_by stop (last_time frame_time lf a) (last_time seal_time ls a)
closed_after stop lf ls [] behind ordered = or_false (closed_by stop lf ls)
closed_after stop lf ls (x ∷ a) behind ordered =
    let o : (is_in_order lf ls x ≡ true) × (list_all (is_in_order lf ls) a ≡ true) =
    and_parts (is_in_order lf ls x) (list_all (is_in_order lf ls) a) behind in
    let r : (list_all (may_precede x) a ≡ true) × (is_ordered a ≡ true) =
    and_parts (list_all (may_precede x) a) (is_ordered a) ordered in
    let outer : ((is_from lf (frame_time x) && is_above ls (frame_time x)) ≡ true)
    × (is_from ls (seal_time x) ≡ true) =
    and_parts (is_from lf (frame_time x) && is_above ls (frame_time x)) (is_from ls (seal_time x))
    o.0 in
    let frames : is_from lf (frame_time x) ≡ true =
    (and_parts (is_from lf (frame_time x)) (is_above ls (frame_time x)) outer.0).0 in
    or_pairs (option_map_or (λ t. nat_lt stop t) lf false)
    (option_map_or (λ t. nat_le stop t) ls false)
    (option_map_or (λ t. nat_lt stop t) (frame_time x) false)
    (option_map_or (λ t. nat_le stop t) (seal_time x) false) (is_closed a stop)
    ∙ ap (λ b. (b || (option_map_or (λ t. nat_le stop t) ls false
    || option_map_or (λ t. nat_le stop t) (seal_time x) false)) || is_closed a stop)
    (closes_last (λ t. nat_lt stop t) (λ t u le passes.
    lt-ltb stop u (omega (arith, ltb-true stop t passes))) lf (frame_time x) frames)
    ∙ ap (λ b. (option_map_or (λ t. nat_lt stop t) (option_or (frame_time x) lf) false || b)
    || is_closed a stop)
    (closes_last (λ t. nat_le stop t) (λ t u le passes.
    le-leb stop u (omega (arith, leb-true stop t passes))) ls (seal_time x) outer.1)
    ∙ closed_after stop (option_or (frame_time x) lf) (option_or (seal_time x) ls) a
    (all_behind lf ls x a o.0 o.1 r.0) r.1

pub closed-by_times : (stop : ℕ) (a : List Entry) → is_ordered a ≡ true
    → is_closed a stop ≡ closed_by stop (last_time frame_time None a) (last_time seal_time None a)
closed-by_times stop a ordered = closed_after stop None None a (ordered_first a) ordered
