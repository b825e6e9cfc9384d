-- What a prefix of all that a START is to hand over has in it.
use Rattle.std.proofs.Common.{◌≡◌, ℕ, zero, suc, ◌+◌, ◌<◌, ◌≤◌, Bool, true, false, cond, List, []}
use Rattle.std.proofs.Common.{◌∷◌, ◌++◌, length, take, Option, Some, None, refl, ap, sym, ◌∙◌}
use Rattle.std.proofs.Common.{arith, inl, inr}
use Rattle.std.specs.List.{list_any, filter}
use Rattle.std.proofs.lemmas.List.{append-nil, append_assoc, map-append, length-take}
use Rattle.std.proofs.lemmas.List.{take-append-le, take-map, take_all, length-append, length-map}
use Rattle.std.proofs.lemmas.List.Folds.{list_any-append}
use Rattle.std.proofs.lemmas.Bool.{cases_lt, true≢false, or_cases, or_left, or_right}
use Rattle.std.proofs.lemmas.Grind.{flat_map-append}
use Rattle.std.proofs.Math.Seq.{take-append-add}
use Rattle.archive_terms.specs.Archive.{Entry, is_archive, is_closed}
use Rattle.archive_terms.specs.Selection.{Selection, picked, is_stop_closed}
use Rattle.archive_terms.specs.Rounds.{to_hand_over, Outcome, items_in, handed_buffer, handed_in}
use Rattle.archive_terms.specs.Rounds.{handed_items, settled_in, settled_items, without_backlog}
use Rattle.std.specs.Option.{option_or}
use Rattle.archive_terms.proofs.Picks.{picked_behind, picked-append, picked_is_final_lem}
use Rattle.archive_terms.proofs.Picks.{stop_known, is_stop_closed-append}
use Rattle.archive_terms.proofs.Cuts.{join, join-cut_onto}
use Rattle.archive_terms.specs.Delivery.{Item, archived, backlog, end_of_data, archived_items}
use Rattle.archive_terms.specs.Delivery.{entries_of, is_end_of_data, all_items, is_complete, cut}
use Rattle.archive_terms.specs.Delivery.{cut_onto, offline_buffers, Terms}

pub no_end : (entries : List (ℕ × Entry)) → list_any is_end_of_data (archived_items entries) ≡ false
no_end [] = refl
no_end (x ∷ entries) = no_end entries

-- a front of the archived items has no end of data
no_end_in_front : (n : ℕ) (entries : List (ℕ × Entry)) (behind : List Item) → n ≤ length entries
    → list_any is_end_of_data (take n (archived_items entries ++ behind)) ≡ false
no_end_in_front n entries behind within =
    ap (list_any is_end_of_data)
    (take-append-le n (archived_items entries) behind
    (omega (arith, length-map entries (λ x. archived x.0 x.1)))
    ∙ take-map (λ x. archived x.0 x.1) n entries)
    ∙ no_end (take n entries)

pub end_is_last : (entries : List (ℕ × Entry)) (closed : Bool) (items : List Item)
    → take (length items) (all_items entries closed) ≡ items
    → list_any is_end_of_data items ≡ true
    → (closed ≡ true) × (items ≡ archived_items entries ++ end_of_data ∷ [])
end_is_last entries closed items front ended =
    elim (cases_lt (length entries) (length items)) [
      | inl more ↦ behind_all closed front (let m : length entries < length items = more in m)
      | inr within ↦ absurd (true≢false (sym ended ∙ ap (list_any is_end_of_data) (sym front)
          ∙ no_end_in_front (length items) entries (cond closed (end_of_data ∷ []) []) within))
    ]
  where
    behind_all : (closed : Bool) → take (length items) (all_items entries closed) ≡ items
        → length entries < length items
        → (closed ≡ true) × (items ≡ archived_items entries ++ end_of_data ∷ [])
    behind_all true front more = (
      refl,
      sym front ∙ take_all (length items) (archived_items entries ++ end_of_data ∷ [])
          (omega (
            arith,
            length-append (archived_items entries) (end_of_data ∷ []),
            length-map entries (λ x. archived x.0 x.1),
          )),
    )
    behind_all false front more =
        absurd (true≢false (sym ended ∙ ap (list_any is_end_of_data) (sym front
        ∙ ap (take (length items)) (append-nil (archived_items entries))
        ∙ take-map (λ x. archived x.0 x.1) (length items) entries)
        ∙ no_end (take (length items) entries)))

-- the entries in a front of the items are a front of the entries
entries_in_front : (n : ℕ) (entries : List (ℕ × Entry)) (closed : Bool)
    → entries_of (take n (all_items entries closed)) ≡ take n entries
entries_in_front zero entries closed = refl
entries_in_front (suc n) [] true = ap entries_of (take_all (suc n) (end_of_data ∷ []) (omega arith))
entries_in_front (suc n) [] false = refl
entries_in_front (suc n) (x ∷ entries) closed =
    ap (λ xs. x ∷ xs) (entries_in_front n entries closed)

pub entries_prefix : (entries : List (ℕ × Entry)) (closed : Bool) (items : List Item)
    → take (length items) (all_items entries closed) ≡ items
    → take (length (entries_of items)) entries ≡ entries_of items
entries_prefix entries closed items front =
    let are : entries_of items ≡ take (length items) entries =
    ap entries_of (sym front) ∙ entries_in_front (length items) entries closed in
    ap (λ xs. take (length xs) entries) are ∙ front_again (length items) entries ∙ sym are
  where
    front_again : (n : ℕ) (xs : List (ℕ × Entry)) → take (length (take n xs)) xs ≡ take n xs
    front_again zero xs = refl
    front_again (suc n) [] = refl
    front_again (suc n) (x ∷ xs) = ap (λ ys. x ∷ ys) (front_again n xs)

-- what is a prefix of all that is to be handed over stays one
pub prefix_stays : (t : Terms) (a b : List Entry) (items : List Item) → is_archive (a ++ b) ≡ true
    → take (length items) (to_hand_over t a) ≡ items
    → take (length items) (to_hand_over t (a ++ b)) ≡ items
prefix_stays t a b items archive front = on_stop (is_stop_closed s a) refl front
  where
    s : Selection
    s = t.selection

    items_of : List (ℕ × Entry) → List Item
    items_of = archived_items

    on_stop : (closed : Bool) → is_stop_closed s a ≡ closed
        → take (length items) (all_items (picked a s) (is_stop_closed s a)) ≡ items
        → take (length items) (to_hand_over t (a ++ b)) ≡ items
    on_stop true closed front =
        let known : (stop : ℕ) × (s.stop ≡ Some stop) × (is_closed a stop ≡ true) =
        stop_known s a closed in
        ap (take (length items))
        (ap (λ xs. all_items xs (is_stop_closed s (a ++ b)))
        (picked_is_final_lem a b s known.0 known.1 known.2 archive)
        ∙ ap (all_items (picked a s)) (is_stop_closed-append s a b closed ∙ sym closed))
        ∙ front
    on_stop false closed front =
        let here : take (length items) (items_of (picked a s) ++ []) ≡ items =
        ap (λ b. take (length items) (all_items (picked a s) b)) (sym closed) ∙ front in
        let within : length items ≤ length (items_of (picked a s)) =
        omega (
          arith,
          length-take (length items) (items_of (picked a s) ++ []),
          ap length here,
          length-append (items_of (picked a s)) (let none : List Item = [] in none),
        ) in
        let behind : List Item =
        items_of (picked_behind a b s) ++ cond (is_stop_closed s (a ++ b)) (end_of_data ∷ []) [] in
        ap (λ xs. take (length items) (items_of xs
        ++ cond (is_stop_closed s (a ++ b)) (end_of_data ∷ []) [])) (picked-append a b s)
        ∙ ap (λ xs. take (length items) (xs ++ cond (is_stop_closed s (a ++ b)) (end_of_data ∷ [])
        [])) (map-append (λ x. archived x.0 x.1) (picked a s) (picked_behind a b s))
        ∙ ap (take (length items)) (append_assoc (items_of (picked a s))
        (items_of (picked_behind a b s)) (cond (is_stop_closed s (a ++ b)) (end_of_data ∷ []) []))
        ∙ take-append-le (length items) (items_of (picked a s)) behind within
        ∙ sym (take-append-le (length items) (items_of (picked a s)) [] within) ∙ here

-- the complete ones among cut buffers hold a front of the items
complete_in_front : (size : ℕ) (items held : List Item)
    → take (length (join (filter (is_complete size) (cut_onto size items held)))) (held ++ items)
    ≡ join (filter (is_complete size) (cut_onto size items held))
complete_in_front size [] [] = refl
complete_in_front size [] (x ∷ held) = on_test (is_complete size (x ∷ held))
  where
    on_test : (b : Bool)
        → take (length (join (cond b ((x ∷ held) ∷ []) []))) ((x ∷ held) ++ [])
        ≡ join (cond b ((x ∷ held) ∷ []) [])
    on_test true = take_all (length ((x ∷ held) ++ [])) ((x ∷ held) ++ []) (omega arith)
    on_test false = refl
complete_in_front size (x ∷ items) held =
    on_test (is_complete size (held ++ x ∷ [])) refl (complete_in_front size items [])
    (complete_in_front size items (held ++ x ∷ []))
  where
    kept_of : List (List Item) → List Item
    kept_of buffers = join (filter (is_complete size) buffers)

    on_test : (b : Bool) → is_complete size (held ++ x ∷ []) ≡ b
        → take (length (kept_of (cut_onto size items []))) items ≡ kept_of (cut_onto size items [])
        → take (length (kept_of (cut_onto size items (held ++ x ∷ [])))) ((held ++ x ∷ []) ++ items)
        ≡ kept_of (cut_onto size items (held ++ x ∷ []))
        → take (length (kept_of (cond b ((held ++ x ∷ []) ∷ cut_onto size items [])
        (cut_onto size items (held ++ x ∷ []))))) (held ++ x ∷ items)
        ≡ kept_of (cond b ((held ++ x ∷ []) ∷ cut_onto size items [])
        (cut_onto size items (held ++ x ∷ [])))
    on_test true is next more =
        let front : List Item = held ++ x ∷ [] in
        let rest : List Item = kept_of (cut_onto size items []) in
        let kept_is : kept_of (front ∷ cut_onto size items []) ≡ front ++ rest =
        ap (λ b. join (cond b (front ∷ filter (is_complete size) (cut_onto size items []))
        (filter (is_complete size) (cut_onto size items [])))) is in
        ap (λ xs. take (length xs) (held ++ x ∷ items)) kept_is
        ∙ ap (λ n. take n (held ++ x ∷ items)) (length-append front rest)
        ∙ ap (take (length front + length rest)) (sym (append_assoc held (x ∷ []) items))
        ∙ take-append-add front items (length rest) ∙ ap (λ xs. front ++ xs) next ∙ sym kept_is
    on_test false is next more =
        ap (take (length (kept_of (cut_onto size items (held ++ x ∷ [])))))
        (sym (append_assoc held (x ∷ []) items))
        ∙ more

pub offline_in_front : (size : ℕ) (entries : List (ℕ × Entry)) (closed : Bool)
    → take (length (join (offline_buffers size entries closed))) (all_items entries closed)
    ≡ join (offline_buffers size entries closed)
offline_in_front size entries true =
    let whole : join (offline_buffers size entries true)
    ≡ archived_items entries ++ end_of_data ∷ [] =
    flat_map-append (λ b. b) (cut size (archived_items entries)) ((end_of_data ∷ []) ∷ [])
    ∙ ap (λ xs. xs ++ end_of_data ∷ []) (join-cut_onto size (archived_items entries) []) in
    ap (λ xs. take (length xs) (archived_items entries ++ end_of_data ∷ [])) whole
    ∙ take_all (length (archived_items entries ++ end_of_data ∷ []))
    (archived_items entries ++ end_of_data ∷ []) (omega arith)
    ∙ sym whole
offline_in_front size entries false =
    ap (take (length (join (offline_buffers size entries false))))
    (append-nil (archived_items entries))
    ∙ complete_in_front size (archived_items entries) []

-- a backlog taken out leaves end of data
end_stays : (items : List Item) → list_any is_end_of_data (without_backlog items)
    ≡ list_any is_end_of_data items
end_stays [] = refl
end_stays (archived place entry ∷ items) = end_stays items
end_stays (backlog ∷ items) = end_stays items
end_stays (end_of_data ∷ items) = refl

-- what was handed over was settled
settled_if_handed : (done : List Outcome) → list_any is_end_of_data (handed_items done) ≡ true
    → list_any is_end_of_data (settled_items done) ≡ true
settled_if_handed [] ended = ended
settled_if_handed (o ∷ done) ended =
    list_any-append is_end_of_data (settled_in o) (settled_items done)
    ∙ elim (or_cases (list_any is_end_of_data (handed_in o))
    (list_any is_end_of_data (handed_items done))
    (sym (list_any-append is_end_of_data (handed_in o) (handed_items done)) ∙ ended)) [
      | inl here ↦ or_left (list_any is_end_of_data (settled_in o))
          (list_any is_end_of_data (settled_items done))
          (of_buffer (handed_buffer o) o.dropped here)
      | inr later ↦ or_right (list_any is_end_of_data (settled_in o))
          (list_any is_end_of_data (settled_items done)) (settled_if_handed done later)
    ]
  where
    of_buffer : (m n : Option (List Item)) → list_any is_end_of_data (items_in m) ≡ true
        → list_any is_end_of_data (items_in (option_or m n)) ≡ true
    of_buffer (Some items) n ended = ended
    of_buffer None n ended = cc

-- where end of data was handed over all was settled before, and the stop is closed
pub all_settled : (entries : List (ℕ × Entry)) (closed : Bool) (done : List Outcome)
    → take (length (without_backlog (settled_items done))) (all_items entries closed)
    ≡ without_backlog (settled_items done)
    → list_any is_end_of_data (handed_items done) ≡ true
    → (closed ≡ true) × (without_backlog (settled_items done)
    ≡ archived_items entries ++ end_of_data ∷ [])
all_settled entries closed done front ended =
    end_is_last entries closed (without_backlog (settled_items done)) front
    (end_stays (settled_items done) ∙ settled_if_handed done ended)
