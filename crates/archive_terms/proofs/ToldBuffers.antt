-- What was told of buffers stays as the archive grows.
use Rattle.std.proofs.Common.{◌≡◌, ℕ, ◌+◌, ◌<◌, Bool, true, false, cond, nat_lt, min, ℤ, pos, List}
use Rattle.std.proofs.Common.{[], ◌∷◌, ◌++◌, length, map, take, drop, Option, Some, None, refl, ap}
use Rattle.std.proofs.Common.{sym, ◌∙◌, arith}
use Rattle.std.specs.List.{list_all, flat_map, filter_map, sum_by, cons_option}
use Rattle.std.proofs.lemmas.List.{append-nil, take-append-le, take-append-drop, take-map}
use Rattle.std.proofs.lemmas.List.{map-append}
use Rattle.std.proofs.lemmas.List.Elements.{filter_map-append}
use Rattle.std.proofs.lemmas.List.Folds.{list_all-append}
use Rattle.std.proofs.lemmas.Bool.{and_parts, ltb-true}
use Rattle.archive_terms.specs.Archive.{Entry, frame, loss_of_sync, production, seal, is_archive}
use Rattle.archive_terms.specs.Selection.{Selection, picked}
use Rattle.archive_terms.specs.Delivery.{Item, archived, backlog, end_of_data, archived_items}
use Rattle.archive_terms.specs.Delivery.{all_items, offline_buffers, Terms, started}
use Rattle.archive_terms.specs.Rounds.{Round, Outcome, outcomes, items_in, handed_buffer}
use Rattle.archive_terms.specs.Rounds.{handed_buffers, handed_items, FrontsRise, last_front}
use Rattle.archive_terms.specs.Continuity.{lost_of, continuity, frame_place, frame_places}
use Rattle.archive_terms.specs.Continuity.{last_frame, with_frame_before, continuity_of}
use Rattle.archive_terms.specs.Continuity.{continuities, told_items, told_buffers}
use Rattle.archive_terms.proofs.Cuts.{join}
use Rattle.archive_terms.proofs.Gaps.{with_frame_before-append}
use Rattle.archive_terms.proofs.Places.{frames_rise, picked_rises, all_below}
use Rattle.archive_terms.proofs.Prefixes.{offline_in_front}
use Rattle.archive_terms.proofs.Runs.{frames_within}

-- all frames among the items stand before a place
abbrev pub stand_before : ℕ → List Item → Bool
stand_before bound items = list_all (λ place. nat_lt place bound) (frame_places items)

stand-append : (bound : ℕ) (xs ys : List Item) → stand_before bound (xs ++ ys) ≡ true
    → (stand_before bound xs ≡ true) × (stand_before bound ys ≡ true)
stand-append bound xs ys all =
    and_parts (stand_before bound xs) (stand_before bound ys)
    (sym (ap (list_all (λ place. nat_lt place bound)) (filter_map-append frame_place xs ys)
    ∙ list_all-append (λ place. nat_lt place bound) (frame_places xs) (frame_places ys)) ∙ all)

pub stand-take : (bound n : ℕ) (items : List Item) → stand_before bound items ≡ true
    → stand_before bound (take n items) ≡ true
stand-take bound n items all =
    (stand-append bound (take n items) (drop n items)
    (ap (stand_before bound) (take-append-drop n items) ∙ all)).0

pub continuity_stays : (a b : List Entry) (before : Option ℕ) (place : ℕ) → place < length a
    → continuity (a ++ b) before place ≡ continuity a before place
continuity_stays a b None place within = refl
continuity_stays a b (Some before) place within =
    ap (λ xs. pos (min 16777215 (sum_by lost_of (drop (before + 1) xs))))
    (take-append-le (place + 1) a b (omega arith))

pub items_stay : (a b : List Entry) (before : Option ℕ) (items : List Item)
    → stand_before (length a) items ≡ true
    → told_items (a ++ b) before items ≡ told_items a before items
items_stay a b before [] all = refl
items_stay a b before (archived p (frame f) ∷ items) all =
    let parts : (nat_lt p (length a) ≡ true) × (stand_before (length a) items ≡ true) =
    and_parts (nat_lt p (length a)) (stand_before (length a) items) all in
    ap (λ c. (archived p (frame f), Some c) ∷ told_items (a ++ b) (Some p) items)
    (continuity_stays a b before p (ltb-true p (length a) parts.0))
    ∙ ap (λ rest. (archived p (frame f), Some (continuity a before p)) ∷ rest)
    (items_stay a b (Some p) items parts.1)
items_stay a b before (archived p (loss_of_sync l) ∷ items) all =
    ap (λ rest. (archived p (loss_of_sync l), None) ∷ rest) (items_stay a b before items all)
items_stay a b before (archived p (production s) ∷ items) all =
    ap (λ rest. (archived p (production s), None) ∷ rest) (items_stay a b before items all)
items_stay a b before (archived p (seal t) ∷ items) all =
    ap (λ rest. (archived p (seal t), None) ∷ rest) (items_stay a b before items all)
items_stay a b before (backlog ∷ items) all =
    ap (λ rest. (backlog, None) ∷ rest) (items_stay a b before items all)
items_stay a b before (end_of_data ∷ items) all =
    ap (λ rest. (end_of_data, None) ∷ rest) (items_stay a b before items all)

pub buffers_stay : (a b : List Entry) (before : Option ℕ) (buffers : List (List Item))
    → stand_before (length a) (join buffers) ≡ true
    → told_buffers (a ++ b) before buffers ≡ told_buffers a before buffers
buffers_stay a b before [] all = refl
buffers_stay a b before (buffer ∷ buffers) all =
    let parts : (stand_before (length a) buffer ≡ true)
    × (stand_before (length a) (join buffers) ≡ true) =
    stand-append (length a) buffer (join buffers) all in
    ap (λ items. items ∷ told_buffers (a ++ b) (last_frame before buffer) buffers)
    (items_stay a b before buffer parts.0)
    ∙ ap (λ rest. told_items a before buffer ∷ rest)
    (buffers_stay a b (last_frame before buffer) buffers parts.1)

-- what is picked of an archive stands in it
picked_stand : (a : List Entry) (s : Selection) (closed : Bool)
    → stand_before (length a) (all_items (picked a s) closed) ≡ true
picked_stand a s closed =
    ap (list_all (λ place. nat_lt place (length a)))
    (filter_map-append frame_place (archived_items (picked a s)) (cond closed (end_of_data ∷ []) [])
    ∙ no_frame closed)
    ∙ all_below 0 (length a) (length a) (frame_places (archived_items (picked a s)))
    (frames_rise 0 (length a) (picked a s) (picked_rises a s)) (omega arith)
  where
    no_frame : (closed : Bool) → frame_places (archived_items (picked a s))
        ++ frame_places (cond closed (end_of_data ∷ []) [])
        ≡ frame_places (archived_items (picked a s))
    no_frame true = append-nil (frame_places (archived_items (picked a s)))
    no_frame false = append-nil (frame_places (archived_items (picked a s)))

-- and so does what is held of it
pub held_stand : (a : List Entry) (s : Selection) (n k : ℕ)
    → stand_before (length a) (archived_items (take k (drop n (picked a s)))) ≡ true
held_stand a s n k =
    let rest : stand_before (length a) (archived_items (drop n (picked a s))) ≡ true =
    (stand-append (length a) (archived_items (take n (picked a s)))
    (archived_items (drop n (picked a s)))
    (ap (stand_before (length a)) (sym (map-append (λ x. archived x.0 x.1) (take n (picked a s))
    (drop n (picked a s)))
    ∙ ap archived_items (take-append-drop n (picked a s)))
    ∙ all_below 0 (length a) (length a) (frame_places (archived_items (picked a s)))
    (frames_rise 0 (length a) (picked a s) (picked_rises a s)) (omega arith))).1 in
    ap (stand_before (length a)) (sym (take-map (λ x. archived x.0 x.1) k (drop n (picked a s))))
    ∙ stand-take (length a) k (archived_items (drop n (picked a s))) rest

pub offline_stay : (size : ℕ) (a b : List Entry) (s : Selection) (closed : Bool)
    → told_buffers (a ++ b) None (offline_buffers size (picked a s) closed)
    ≡ told_buffers a None (offline_buffers size (picked a s) closed)
offline_stay size a b s closed =
    let buffers : List (List Item) = offline_buffers size (picked a s) closed in
    buffers_stay a b None buffers
    (ap (stand_before (length a)) (sym (offline_in_front size (picked a s) closed))
    ∙ stand-take (length a) (length (join buffers)) (all_items (picked a s) closed)
    (picked_stand a s closed))

-- buffer by buffer the same is told as of all items
pub told-append : (a : List Entry) (before : Option ℕ) (xs ys : List Item)
    → told_items a before (xs ++ ys) ≡ told_items a before xs
    ++ told_items a (last_frame before xs) ys
told-append a before xs ys =
    ap (map (λ x. (x.1, continuity_of a x))) (with_frame_before-append before xs ys)
    ∙ map-append (λ x. (x.1, continuity_of a x)) (with_frame_before before xs)
    (with_frame_before (last_frame before xs) ys)

pub told-join : (a : List Entry) (before : Option ℕ) (buffers : List (List Item))
    → flat_map (λ items. items) (told_buffers a before buffers) ≡ told_items a before (join buffers)
told-join a before [] = refl
told-join a before (buffer ∷ buffers) =
    ap (λ rest. told_items a before buffer ++ rest) (told-join a (last_frame before buffer) buffers)
    ∙ sym (told-append a before buffer (join buffers))

-- the continuities of what is told
pub told_continuities : (a : List Entry) (items : List Item)
    → filter_map (λ (x : Item × Option ℤ). x.1) (told_items a None items) ≡ continuities a items
told_continuities a items = mapped (with_frame_before None items)
  where
    mapped : (xs : List (Option ℕ × Item))
        → filter_map (λ (x : Item × Option ℤ). x.1) (map (λ x. (x.1, continuity_of a x)) xs)
        ≡ filter_map (continuity_of a) xs
    mapped [] = refl
    mapped (x ∷ xs) = rw (mapped xs) refl

-- the buffers that rounds handed over hold the items that they handed over
handed-join : (done : List Outcome) → join (handed_buffers done) ≡ handed_items done
handed-join [] = refl
handed-join (o ∷ done) = of_buffer (handed_buffer o) (handed-join done)
  where
    of_buffer : (m : Option (List Item)) → join (handed_buffers done) ≡ handed_items done
        → join (cons_option m (handed_buffers done)) ≡ items_in m ++ handed_items done
    of_buffer (Some items) rest = ap (λ xs. items ++ xs) rest
    of_buffer None rest = rest

pub run_stays : (t : Terms) (entries later : List Entry) (rounds : List Round) → 0 < t.size
    → is_archive entries ≡ true → FrontsRise 0 rounds
    → told_buffers (take (last_front 0 rounds) entries ++ later) None
    (handed_buffers (outcomes t entries rounds started))
    ≡ told_buffers entries None (handed_buffers (outcomes t entries rounds started))
run_stays t entries later rounds some archive rise =
    let a : List Entry = take (last_front 0 rounds) entries in
    let done : List Outcome = outcomes t entries rounds started in
    let within : stand_before (length a) (join (handed_buffers done)) ≡ true =
    ap (stand_before (length a)) (handed-join done)
    ∙ frames_within t entries rounds some archive rise in
    buffers_stay a later None (handed_buffers done) within
    ∙ sym (buffers_stay a (drop (last_front 0 rounds) entries) None (handed_buffers done) within)
    ∙ ap (λ xs. told_buffers xs None (handed_buffers done))
    (take-append-drop (last_front 0 rounds) entries)
