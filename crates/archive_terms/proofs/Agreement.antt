-- A delivery that remembers a place steps as the one that counts in the picked list.
use Rattle.std.proofs.Common.{◌≡◌, ℕ, zero, suc, ◌+◌, ◌-◌, ◌<◌, ◌≤◌, Bool, true, false, cond, not}
use Rattle.std.proofs.Common.{◌&&◌, ◌||◌, nat_eq, nat_lt, List, [], ◌∷◌, ◌++◌, length, take, drop}
use Rattle.std.proofs.Common.{Option, Some, None, refl, ap, sym, subst, ◌∙◌, arith, append_assoc}
use Rattle.std.specs.Prelude.{is_none}
use Rattle.std.specs.List.{filter, list_any, sum_by}
use Rattle.std.specs.Option.{option_to_list, option_or}
use Rattle.std.proofs.lemmas.List.{length-drop, length-take-le, length-map, take-map, take-take}
use Rattle.std.proofs.lemmas.List.{drop-drop, map-append, take-append-drop}
use Rattle.std.proofs.lemmas.Bool.{ne_eqb}
use Rattle.std.proofs.Math.Seq.{take-add}
use Rattle.archive_terms.specs.Archive.{Entry}
use Rattle.archive_terms.specs.Selection.{picked, is_stop_closed}
use Rattle.archive_terms.specs.Delivery.{Item, archived, archived_items, entries_of, frame_octets}
use Rattle.archive_terms.specs.Delivery.{is_notice_item, is_notification, is_complete}
use Rattle.archive_terms.specs.Delivery.{buffer_length, Terms, is_due_of, contents, Delivery}
use Rattle.archive_terms.specs.Delivery.{buffer}
use Rattle.archive_terms.specs.Continuity.{frame_place, last_frame, told_items}
use Rattle.archive_terms.specs.Glimpse.{Wanted, wants_nothing, wants_items, given_of, picked_from}
use Rattle.archive_terms.specs.Glimpse.{place_behind, Glimpse, glimpse}
use Rattle.archive_terms.specs.Placed.{items_of, Placed, with_head, want_of, taken_of, with_items}
use Rattle.archive_terms.specs.Placed.{is_all_put}
use Rattle.archive_terms.proofs.Buffers.{InLimits, room, entries_of-archived, nothing_complete}
use Rattle.archive_terms.proofs.Places.{RisesTo, places_of, picked_rises}
use Rattle.archive_terms.proofs.ToldBuffers.{told-append}
use Rattle.archive_terms.proofs.Waiting.{from_place, behind_to, waits_behind, left_rises}
use Rattle.archive_terms.proofs.Fills.{front_length, look, look-le, enough_given, held_taken}
use Rattle.archive_terms.proofs.Fills.{given_fills}

pub record Agrees (t : Terms) (a : List Entry) (p : Placed) (d : Delivery) : Type 0 where
  pub held : p.held ≡ told_items a p.last (buffer (picked a t.selection) d)
  pub waits : filter (from_place p.place) (picked a t.selection)
      ≡ drop (d.settled + d.held) (picked a t.selection)
  pub within : p.place ≤ length a
  pub owed : p.owed ≡ d.owed
  pub fixed : p.fixed ≡ d.fixed
  pub since : p.since ≡ d.since
  pub ended : p.ended ≡ d.ended
  pub still : d.fixed ≡ false → is_complete t.size (buffer (picked a t.selection) d) ≡ false

-- ---- items as they are told

pub items_of-told : (a : List Entry) (before : Option ℕ) (xs : List Item)
    → items_of (told_items a before xs) ≡ xs
items_of-told a before [] = refl
items_of-told a before (x ∷ xs) = cc (items_of-told a (option_or (frame_place x) before) xs)

pub length-told : (a : List Entry) (before : Option ℕ) (xs : List Item)
    → length (told_items a before xs) ≡ length xs
length-told a before [] = refl
length-told a before (x ∷ xs) = ap suc (length-told a (option_or (frame_place x) before) xs)

take-told : (a : List Entry) (before : Option ℕ) (n : ℕ) (xs : List Item)
    → take n (told_items a before xs) ≡ told_items a before (take n xs)
take-told a before zero xs = refl
take-told a before (suc n) [] = refl
take-told a before (suc n) (x ∷ xs) = cc (take-told a (option_or (frame_place x) before) n xs)

-- ---- small facts

last_same : (m g w taken : ℕ) → taken ≤ g → g ≤ w
    → (not (nat_lt g w) && nat_eq taken g) ≡ nat_eq (m + taken) (m + w)
last_same m g w taken few fits = grind arith

pub end_same : (e c : Bool) (n r m : ℕ) → (e ≡ true → r ≡ 0)
    → ((true && e) && c && nat_eq n m) ≡ (e && (c && nat_eq (n + r) m))
end_same e c n r m none = grind arith

pub held_is_empty : (a : List Entry) (before : Option ℕ) (front : Option Item) (k : ℕ)
    (xs : List (ℕ × Entry)) → k ≤ length xs
    → nat_eq (length (told_items a before (option_to_list front ++ archived_items (take k xs)))) 0
    ≡ (is_none front && nat_eq k 0)
held_is_empty a before None k xs fits =
    ap (λ n. nat_eq n 0) (length-told a before (archived_items (take k xs))
    ∙ length-map (take k xs) (λ x. archived x.0 x.1) ∙ length-take-le k xs fits)
held_is_empty a before (Some x) k xs fits =
    ne_eqb (length (told_items a before (x ∷ archived_items (take k xs)))) 0
    (λ none. omega (arith, none, length-told a before (x ∷ archived_items (take k xs))))

-- a complete buffer is due
noted : (items : List Item) → list_any is_notice_item items ≡ true
    → list_any is_notification items ≡ true
noted [] is = is
noted (x ∷ items) is = grind (arith, noted items)

complete_is_due : (size : ℕ) (limit : Option ℕ) (now since : ℕ) (last : Bool) (items : List Item)
    → 0 < size
    → is_complete size items ≡ true → is_due_of size limit now last (contents since items) ≡ true
complete_is_due size limit now since last [] some complete =
    absurd (cc (nothing_complete size some))
complete_is_due size limit now since last (x ∷ items) some complete =
    grind (arith, noted (x ∷ items))

pub not_complete : (size : ℕ) (limit : Option ℕ) (now since : ℕ) (last : Bool) (items : List Item)
    → 0 < size
    → is_due_of size limit now last (contents since items) ≡ false → is_complete size items ≡ false
not_complete size limit now since last items some waits =
    grind (arith, complete_is_due size limit now since last items some)

-- ---- filling

-- what a buffer behind this front, with n settled, becomes on a look
pub record Filled (t : Terms) (a : List Entry) (now : ℕ) (p : Placed) (front : Option Item)
    (n : ℕ) : Type 0 where
  pub held : (with_items t (glimpse a (want_of t p)) now p).held
      ≡ told_items a p.last (option_to_list front
      ++ archived_items (take (room t.size front (drop n (picked a t.selection)))
      (drop n (picked a t.selection))))
  pub waits : filter (from_place (with_items t (glimpse a (want_of t p)) now p).place)
      (picked a t.selection)
      ≡ drop (n + room t.size front (drop n (picked a t.selection))) (picked a t.selection)
  pub within : (with_items t (glimpse a (want_of t p)) now p).place ≤ length a
  pub last : ((glimpse a (want_of t p)).closed && is_all_put t (glimpse a (want_of t p)) p)
      ≡ (is_stop_closed t.selection a && nat_eq
      (n + room t.size front (drop n (picked a t.selection))) (length (picked a t.selection)))

pub fills : (t : Terms) (a : List Entry) (now : ℕ) (p : Placed) (front : Option Item) (n k : ℕ)
    → 0 < t.size
    → (p.fixed || p.ended) ≡ false → n + k ≤ length (picked a t.selection)
    → InLimits t.size (option_to_list front ++ archived_items
    (take k (drop n (picked a t.selection))))
    → with_head p ≡ told_items a p.last (option_to_list front
    ++ archived_items (take k (drop n (picked a t.selection))))
    → filter (from_place p.place) (picked a t.selection) ≡ drop (n + k) (picked a t.selection)
    → p.place ≤ length a
    → Filled t a now p front n
fills t a now p front n k some goes fits limits head waits within = record {
  held = by_want (λ g. with_head p ++ take (taken_of t g p) g.items) ∙ held_is;
  waits = by_want (λ g. filter (from_place (place_behind p.place
      (entries_of (items_of (take (taken_of t g p) g.items))))) all) ∙ waits_is;
  within = subst (λ g. place_behind p.place (entries_of (items_of (take (taken_of t g p) g.items)))
      ≤ length a) (ap (glimpse a) (sym wanted)) within_is;
  last = by_want (λ g. g.closed && is_all_put t g p) ∙ last_is;
}
  where
    all : List (ℕ × Entry)
    all = picked a t.selection

    xs : List (ℕ × Entry)
    xs = drop n all

    h : List Item
    h = option_to_list front ++ archived_items (take k xs)

    w : List (ℕ × Entry)
    w = drop (n + k) all

    want : Wanted
    want = record {
      selection = t.selection;
      place = p.place;
      since = last_frame p.last (items_of (with_head p));
      room = t.size - length (with_head p);
      octets = 524288 - sum_by frame_octets (items_of (with_head p));
    }

    wanted : want_of t p ≡ wants_items want
    wanted = ap (λ b. cond b wants_nothing (wants_items want)) goes

    g : Glimpse
    g = glimpse a (wants_items want)

    by_want : {A : Type 0} → (f : Glimpse → A) → f (glimpse a (want_of t p)) ≡ f g
    by_want f = ap (λ x. f (glimpse a x)) wanted

    items_are : items_of (with_head p) ≡ h
    items_are = ap items_of head ∙ items_of-told a p.last h

    length_is : length (with_head p) ≡ length h
    length_is = ap length head ∙ length-told a p.last h

    -- what is given
    given_is : given_of a want ≡ take (look t.size h w) w
    given_is = rw (waits, length_is, items_are)

    given_items : g.items ≡ told_items a (last_frame p.last h)
        (archived_items (take (look t.size h w) w))
    given_items = rw (given_is, items_are)

    xs_long : k ≤ length xs
    xs_long = omega (arith, length-drop n all)

    w_is : drop k xs ≡ w
    w_is = drop-drop k n all

    -- how many are taken
    whole : h ++ archived_items w ≡ option_to_list front ++ archived_items xs
    whole = rw (append_assoc, ← w_is, ← map-append, take-append-drop)

    r : ℕ
    r = room t.size front xs

    taken : ℕ
    taken = taken_of t g p

    taken_is : taken ≡ buffer_length t.size (h ++ archived_items w) - length h
    taken_is = rw (given_items, items_of-told, items_are, length_is, given_fills)

    r_is : r ≡ k + taken
    r_is =
        let same : buffer_length t.size (h ++ archived_items w)
        ≡ buffer_length t.size (option_to_list front ++ archived_items xs) =
        ap (buffer_length t.size) whole in
        let long : length h ≡ length (option_to_list front) + k =
        omega (
          arith,
          front_length (option_to_list front) (take k xs),
          length-take-le k xs xs_long,
        ) in
        omega (arith, taken_is, same, long, held_taken t.size h w limits)

    few : taken ≤ look t.size h w
    few = omega (arith, taken_is, enough_given t.size h w)

    took : take taken g.items ≡ told_items a (last_frame p.last h) (archived_items (take taken w))
    took =
        ap (take taken) given_items
        ∙ rw (take-told, take-map, take-take taken (look t.size h w) w few)

    held_is : (with_head p ++ take taken g.items)
        ≡ told_items a p.last (option_to_list front ++ archived_items (take r xs))
    held_is =
        ap (λ ys. ys ++ take taken g.items) head ∙ ap (λ ys. told_items a p.last h ++ ys) took
        ∙ sym (told-append a p.last h (archived_items (take taken w)))
        ∙ ap (told_items a p.last)
        (append_assoc (option_to_list front) (archived_items (take k xs))
        (archived_items (take taken w))
        ∙ ap (λ ys. option_to_list front ++ (archived_items (take k xs)
        ++ archived_items (take taken ys))) (sym w_is)
        ∙ ap (λ ys. option_to_list front ++ ys)
        (sym (map-append (λ x. archived x.0 x.1) (take k xs) (take taken (drop k xs))))
        ∙ ap (λ ys. option_to_list front ++ archived_items ys) (sym (take-add k taken xs))
        ∙ ap (λ m. option_to_list front ++ archived_items (take m xs)) (sym r_is))

    put_is : entries_of (items_of (take taken g.items)) ≡ take taken w
    put_is =
        ap (λ ys. entries_of (items_of ys)) took
        ∙ ap entries_of (items_of-told a (last_frame p.last h) (archived_items (take taken w)))
        ∙ entries_of-archived (take taken w)

    rest_rises : RisesTo p.place (length a) (places_of w)
    rest_rises =
        subst (λ ys. RisesTo p.place (length a) (places_of ys)) waits
        (left_rises 0 (length a) p.place all (picked_rises a t.selection) within)

    waits_is : filter (from_place (place_behind p.place
        (entries_of (items_of (take taken g.items))))) all ≡ drop (n + r) all
    waits_is =
        ap (λ ys. filter (from_place (place_behind p.place ys)) all) put_is
        ∙ waits_behind 0 (length a) p.place taken (n + k) all (picked_rises a t.selection) waits
        rest_rises
        ∙ drop-drop taken (n + k) all ∙ ap (λ m. drop m all) (omega (arith, r_is))

    within_is : place_behind p.place (entries_of (items_of (take taken g.items))) ≤ length a
    within_is =
        subst (λ ys. place_behind p.place ys ≤ length a) (sym put_is)
        (behind_to p.place (length a) p.place taken w rest_rises within)

    last_is : (g.closed && is_all_put t g p) ≡ (is_stop_closed t.selection a
        && nat_eq (n + r) (length all))
    last_is =
        let some_left : length (take (look t.size h w) w) ≡ look t.size h w =
        length-take-le (look t.size h w) w (look-le t.size h w) in
        let given_long : length (given_of a want) ≡ look t.size h w = ap length given_is
        ∙ some_left in
        let items_long : length g.items ≡ look t.size h w =
        ap length given_items ∙ length-told a (last_frame p.last h)
        (archived_items (take (look t.size h w) w))
        ∙ length-map (take (look t.size h w) w) (λ x. archived x.0 x.1) ∙ some_left in
        let waiting_long : length (picked_from a t.selection p.place) ≡ length w =
        ap length waits in
        let put_all : n + k + taken ≡ n + r = omega (arith, r_is) in
        let long : n + k + length w ≡ length all = omega (arith, length-drop (n + k) all) in
        let same = last_same (n + k) (look t.size h w) (length w) taken few (look-le t.size h w) in
        rw (given_long, waiting_long, items_long, same, put_all, long)
