-- Continuities add up.
use Rattle.std.proofs.Common.{◌≡◌, ℕ, suc, ◌+◌, ◌-◌, ◌<◌, ◌≤◌, min, List, [], ◌∷◌, ◌++◌, length}
use Rattle.std.proofs.Common.{take, drop, slice_index, map, pos, negsuc, Option, Some, refl, ap}
use Rattle.std.proofs.Common.{sym, ◌∙◌, arith, subst}
use Rattle.std.specs.List.{sum_by, sum, All, filter_map}
use Rattle.std.specs.List.Sorted.{IsStrictlyIncreasing}
use Rattle.std.proofs.lemmas.List.{length-take, length-append, drop_all, take_all, take-take}
use Rattle.std.proofs.lemmas.List.{take-append-drop, drop-take, drop-drop}
use Rattle.std.proofs.lemmas.List.Sums.{sum_by-cons, sum_by-append}
use Rattle.std.proofs.Math.Seq.{take-add}
use Rattle.std.specs.Option.{option_or}
use Rattle.archive_terms.specs.Archive.{Entry, frame, loss_of_sync, production, seal}
use Rattle.archive_terms.specs.Delivery.{Item, archived, backlog, end_of_data}
use Rattle.archive_terms.specs.Continuity.{lost_of, lost_between, lost_up_to, gap, gaps}
use Rattle.archive_terms.specs.Continuity.{frame_place, frame_places, last_frame, with_frame_before}
use Rattle.archive_terms.specs.Continuity.{continuity_of, continuities}

-- what was lost over a stretch of entries
lost_over : (a : List Entry) (p q : ℕ) → p ≤ q
    → lost_between a p q ≡ sum_by lost_of (take (q - p) (drop (p + 1) a))
lost_over a p q rise =
    let end : q + 1 ≡ (p + 1) + (q - p) = omega arith in
    ap (λ n. sum_by lost_of (drop (p + 1) (take n a))) end
    ∙ ap (sum_by lost_of) (drop-take (p + 1) (q - p) a)

pub lost-add : (a : List Entry) (p q r : ℕ) → p ≤ q → q ≤ r
    → lost_between a p r ≡ lost_between a p q + lost_between a q r
lost-add a p q r first second =
    let x : List Entry = drop (p + 1) a in
    let whole : r - p ≡ (q - p) + (r - q) = omega arith in
    let start : q + 1 ≡ (p + 1) + (q - p) = omega arith in
    let back : lost_between a q r ≡ sum_by lost_of (take (r - q) (drop (q - p) x)) =
    lost_over a q r second ∙ ap (λ n. sum_by lost_of (take (r - q) (drop n a))) start
    ∙ ap (λ xs. sum_by lost_of (take (r - q) xs)) (sym (drop-drop (q - p) (p + 1) a)) in
    lost_over a p r (omega arith) ∙ ap (λ n. sum_by lost_of (take n x)) whole
    ∙ ap (sum_by lost_of) (take-add (q - p) (r - q) x)
    ∙ sum_by-append lost_of (take (q - p) x) (take (r - q) (drop (q - p) x))
    ∙ ap (λ n. n + sum_by lost_of (take (r - q) (drop (q - p) x))) (sym (lost_over a p q first))
    ∙ ap (λ n. lost_between a p q + n) (sym back)

-- the running sum grows by what was lost between two places
pub lost_running : (a : List Entry) (p q : ℕ) → p ≤ q
    → lost_up_to a (p + 1) + lost_between a p q ≡ lost_up_to a (q + 1)
lost_running a p q rise =
    let front : take (p + 1) (take (q + 1) a) ≡ take (p + 1) a =
    take-take (p + 1) (q + 1) a (omega arith) in
    ap (λ xs. sum_by lost_of xs + lost_between a p q) (sym front)
    ∙ sym (sum_by-append lost_of (take (p + 1) (take (q + 1) a)) (drop (p + 1) (take (q + 1) a)))
    ∙ ap (sum_by lost_of) (take-append-drop (p + 1) (take (q + 1) a))

pub lost_one_more : (a : List Entry) (e : Entry)
    → lost_up_to (a ++ e ∷ []) (length a + 1) ≡ lost_up_to a (length a) + lost_of e
lost_one_more a e =
    let all : take (length a + 1) (a ++ e ∷ []) ≡ a ++ e ∷ [] =
    take_all (length a + 1) (a ++ e ∷ []) (omega (arith, length-append a (e ∷ []))) in
    let front : take (length a) a ≡ a = take_all (length a) a (omega arith) in
    omega (
      arith,
      ap (sum_by lost_of) all,
      ap (sum_by lost_of) front,
      sum_by-append lost_of a (e ∷ []),
      sum_by-cons lost_of e [],
    )

-- capped sums add up to a capped sum
pub gap-add : (a : List Entry) (p q r : ℕ) → p ≤ q → q ≤ r
    → gap a p r ≡ min 16777215 (gap a p q + gap a q r)
gap-add a p q r first second = omega (arith, lost-add a p q r first second)

lost_nowhere : (a : List Entry) (p : ℕ) → lost_between a p p ≡ 0
lost_nowhere a p =
    ap (sum_by lost_of) (drop_all (p + 1) (take (p + 1) a) (omega (arith, length-take (p + 1) a)))

increasing_tail : (p q : ℕ) (places : List ℕ) → IsStrictlyIncreasing (p ∷ q ∷ places)
    → IsStrictlyIncreasing (q ∷ places)
increasing_tail p q places rise k more =
    let next : suc k + 1 ≡ suc (k + 1) = omega arith in
    subst (λ m. slice_index (q ∷ places) k < slice_index (p ∷ q ∷ places) m) next
    (rise (suc k) (omega arith))

last_rises : (p : ℕ) (places : List ℕ) → IsStrictlyIncreasing (p ∷ places)
    → p ≤ slice_index (p ∷ places) (length places)
last_rises p [] rise = omega arith
last_rises p (q ∷ places) rise =
    let next : p < q = rise 0 (omega arith) in
    let rest : q ≤ slice_index (q ∷ places) (length places) =
    last_rises q places (increasing_tail p q places rise) in
    omega arith

pub gaps_add_up : (a : List Entry) (p : ℕ) (places : List ℕ) → IsStrictlyIncreasing (p ∷ places)
    → All (λ g. g < 16777215) (gaps a p places)
    → sum (gaps a p places) ≡ lost_between a p (slice_index (p ∷ places) (length places))
gaps_add_up a p [] rise small = sym (lost_nowhere a p)
gaps_add_up a p (q ∷ places) rise small =
    let next : p < q = rise 0 (omega arith) in
    let rises : IsStrictlyIncreasing (q ∷ places) = increasing_tail p q places rise in
    let here : gap a p q < 16777215 = small 0 0 (omega arith) in
    let whole : gap a p q ≡ lost_between a p q = omega arith in
    let rest : sum (gaps a q places) ≡ lost_between a q (slice_index (q ∷ places) (length places)) =
    gaps_add_up a q places rises (λ k d below. small (suc k) d (omega arith)) in
    sum_by-cons (λ x. x) (gap a p q) (gaps a q places) ∙ ap (λ n. n + sum (gaps a q places)) whole
    ∙ ap (λ n. lost_between a p q + n) rest
    ∙ sym (lost-add a p q (slice_index (q ∷ places) (length places)) (omega arith)
    (last_rises q places rises))

-- the continuities behind a frame are the gaps from it on
gaps_behind : (a : List Entry) (p : ℕ) (items : List Item)
    → filter_map (continuity_of a) (with_frame_before (Some p) items)
    ≡ map pos (gaps a p (frame_places items))
gaps_behind a p [] = refl
gaps_behind a p (archived q (frame f) ∷ items) =
    ap (λ xs. pos (gap a p q) ∷ xs) (gaps_behind a q items)
gaps_behind a p (archived q (loss_of_sync l) ∷ items) = gaps_behind a p items
gaps_behind a p (archived q (production status) ∷ items) = gaps_behind a p items
gaps_behind a p (archived q (seal time) ∷ items) = gaps_behind a p items
gaps_behind a p (backlog ∷ items) = gaps_behind a p items
gaps_behind a p (end_of_data ∷ items) = gaps_behind a p items

pub continuities_are_gaps : (a : List Entry) (items : List Item) (p : ℕ) (places : List ℕ)
    → frame_places items ≡ p ∷ places
    → continuities a items ≡ negsuc 0 ∷ map pos (gaps a p places)
continuities_are_gaps a [] p places are = cc
continuities_are_gaps a (archived q (frame f) ∷ items) p places are =
    let first : q ≡ p = cc in
    let rest : frame_places items ≡ places = cc in
    ap (λ xs. negsuc 0 ∷ xs) (gaps_behind a q items ∙ ap (λ xs. map pos (gaps a q xs)) rest
    ∙ ap (λ n. map pos (gaps a n places)) first)
continuities_are_gaps a (archived q (loss_of_sync l) ∷ items) p places are =
    continuities_are_gaps a items p places are
continuities_are_gaps a (archived q (production status) ∷ items) p places are =
    continuities_are_gaps a items p places are
continuities_are_gaps a (archived q (seal time) ∷ items) p places are =
    continuities_are_gaps a items p places are
continuities_are_gaps a (backlog ∷ items) p places are = continuities_are_gaps a items p places are
continuities_are_gaps a (end_of_data ∷ items) p places are =
    continuities_are_gaps a items p places are

-- buffer by buffer, the last frame goes on to the next
pub with_frame_before-append : (before : Option ℕ) (xs ys : List Item)
    → with_frame_before before (xs ++ ys) ≡ with_frame_before before xs
    ++ with_frame_before (last_frame before xs) ys
with_frame_before-append before [] ys = refl
with_frame_before-append before (x ∷ xs) ys =
    ap (λ rest. (before, x) ∷ rest) (with_frame_before-append (option_or (frame_place x) before) xs
    ys)
