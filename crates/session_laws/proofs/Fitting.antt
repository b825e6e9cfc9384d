-- What a delivery holds goes into one message.
use Rattle.std.proofs.Common.{◌≡◌, ℕ, zero, suc, ◌+◌, ◌-◌, ◌<◌, ◌≤◌, Bool, true, false, ◌&&◌, ◌||◌, cond}
use Rattle.std.proofs.Common.{◌==◌, Option, Some, None, List, [], ◌∷◌, ◌++◌, length, take, refl}
use Rattle.std.proofs.Common.{sym, ap, subst, ◌∙◌, ⊎_elim, filter, arith, IsFalse, IsTrue, if◌then◌else◌}
use Rattle.std.proofs.Math.Seq.{take-append-add}
use Rattle.std.proofs.lemmas.Bool.{and_parts, cases_lt}
use Rattle.std.proofs.lemmas.List.{length-append, length-take-le, length-map, map-append, take-append-le}
use Rattle.std.proofs.lemmas.List.{take-map}
use Rattle.std.proofs.lemmas.List.Folds.{list_all-append}
use Rattle.std.specs.Option.{option_map_or}
use Rattle.std.specs.List.{list_all, list_any, AllByRecursion, enumerate_from}
use Rattle.archive_terms.specs.Archive.{Entry, frame, loss_of_sync, production, seal, is_storable}
use Rattle.archive_terms.specs.Archive.{is_ordered}
use Rattle.archive_terms.specs.Selection.{Selection, is_picked}
use Rattle.archive_terms.specs.Delivery.{Item, backlog, end_of_data, archived_items, Terms}
use Rattle.archive_terms.specs.Delivery.{is_complete, buffer_length, IsBuffer}
use Rattle.archive_terms.specs.Delivery.{is_archived, is_timely}
use Rattle.archive_terms.specs.Continuity.{told_items}
use Rattle.archive_terms.specs.Glimpse.{Want, wants_nothing, wants_front, wants_items, Glimpse, glimpse}
use Rattle.archive_terms.specs.Glimpse.{given_of, picked_from}
use Rattle.archive_terms.specs.Placed.{ToldItem, items_of, Placed, placed_at_start, with_head, want_of}
use Rattle.archive_terms.specs.Placed.{taken_of, is_all_put, placed_step, placed_answered, emptied}
use Rattle.archive_terms.specs.Placed.{fixed_where_due, with_end_alone, with_items}
use Rattle.archive_terms.specs.Placed.{placed_at_round, placed_answer_at, placed_after_round}
use Rattle.archive_terms.specs.Rounds.{Answer, whole, stall, fail, Round, takes_step}
use Rattle.buffer_message.specs.Fitting.{is_in_range, fits_message}
use Rattle.buffer_message.specs.Laws.{BuffersFit, StoredInRange, SaidTheSame}
use Rattle.return_core.specs.Course.{Run}
use Rattle.return_core.specs.Standing.{placed_after}
use Rattle.session_laws.specs.Fitting.{HeldFits}

-- the laws that this one rests on
pub record Fits : Type 0 where
  pub fit : BuffersFit
  pub stored : StoredInRange
  pub same : SaidTheSame
  pub within : (size : ℕ) (items : List Item) → buffer_length size items ≤ length items
  pub opens : (size : ℕ) (items : List Item) (j : ℕ) → j < buffer_length size items
      → IsFalse (is_complete size (take j items))
  pub greatest : (size : ℕ) (items : List Item) → buffer_length size items < length items
      → IsTrue (is_complete size (take (buffer_length size items) items))

-- ---- lists

all_filter : {X : Type 0} (P : X → Type 0) (p : X → Bool) (xs : List X) → AllByRecursion P xs
    → AllByRecursion P (filter p xs)
all_filter P p [] all = tt
all_filter P p (x ∷ xs) all = by (p x) (all_filter P p xs all.1)
  where
    by : (b : Bool) → AllByRecursion P (filter p xs)
        → AllByRecursion P (cond b (x ∷ filter p xs) (filter p xs))
    by true rest = (all.0, rest)
    by false rest = rest

all_take : {X : Type 0} (P : X → Type 0) (n : ℕ) (xs : List X) → AllByRecursion P xs
    → AllByRecursion P (take n xs)
all_take P zero xs all = tt
all_take P (suc n) [] all = tt
all_take P (suc n) (x ∷ xs) all = (all.0, all_take P n xs all.1)

both_true : (a b : Bool) → a ≡ true → b ≡ true → (a && b) ≡ true
both_true a b e f = grind arith

true_take : {X : Type 0} (p : X → Bool) (n : ℕ) (xs : List X) → list_all p xs ≡ true
    → list_all p (take n xs) ≡ true
true_take p zero xs all = refl
true_take p (suc n) [] all = refl
true_take p (suc n) (x ∷ xs) all =
    let parts = and_parts (p x) (list_all p xs) all in
    both_true (p x) (list_all p (take n xs)) parts.0 (true_take p n xs parts.1)

front_front : {X : Type 0} (j n : ℕ) (xs : List X) → j ≤ n → take j (take n xs) ≡ take j xs
front_front zero n xs below = refl
front_front (suc j) zero xs below = absurd (omega (arith, below))
front_front (suc j) (suc n) [] below = refl
front_front (suc j) (suc n) (x ∷ xs) below =
    ap (λ ys. x ∷ ys) (front_front j n xs (omega (arith, below)))

-- ---- what a look gives

abbrev is_seal : Entry → Bool
is_seal (seal at) = true
is_seal _ = false

-- an entry that may be stored and is no seal
abbrev IsTold : ℕ × Entry → Type 0
IsTold x = (is_storable x.1 ≡ true) × (is_seal x.1 ≡ false)

told_picked : (p : ℕ × Entry → Bool) → ((n : ℕ) (e : Entry) → p (n, e) ≡ true → is_seal e ≡ false)
    → (n : ℕ) (entries : List Entry) → list_all is_storable entries ≡ true
    → AllByRecursion IsTold (filter p (enumerate_from n entries))
told_picked p none n [] all = tt
told_picked p none n (e ∷ entries) all =
    by (p (n, e)) refl
    (told_picked p none (n + 1) entries (and_parts (is_storable e) (list_all is_storable entries) all).1)
  where
    by : (b : Bool) → p (n, e) ≡ b
        → AllByRecursion IsTold (filter p (enumerate_from (n + 1) entries)) → AllByRecursion IsTold
        (cond b ((n, e) ∷ filter p (enumerate_from (n + 1) entries))
        (filter p (enumerate_from (n + 1) entries)))
    by true is rest =
        (((and_parts (is_storable e) (list_all is_storable entries) all).0, none n e is), rest)
    by false is rest = rest

no_seal : (s : Selection) (all : List Entry) (n : ℕ) (e : Entry) → is_picked s all n e ≡ true
    → is_seal e ≡ false
no_seal s all n (frame f) is = refl
no_seal s all n (loss_of_sync l) is = refl
no_seal s all n (production status) is = refl
no_seal s all n (seal at) is = grind arith

module _ (laws : Fits) where
  in_range_told : (entries : List Entry) (before : Option ℕ) (xs : List (ℕ × Entry))
      → AllByRecursion IsTold xs
      → list_all is_in_range (told_items entries before (archived_items xs)) ≡ true
  in_range_told entries before [] all = refl
  in_range_told entries before ((place, frame f) ∷ xs) all =
      both_true _ _ (laws.stored.frames entries before place f all.0.0)
      (in_range_told entries (Some place) xs all.1)
  in_range_told entries before ((place, loss_of_sync l) ∷ xs) all =
      both_true _ _ (laws.stored.losses place l all.0.0) (in_range_told entries before xs all.1)
  in_range_told entries before ((place, production status) ∷ xs) all =
      both_true _ _ (laws.stored.productions place status all.0.0)
      (in_range_told entries before xs all.1)
  in_range_told entries before ((place, seal at) ∷ xs) all = absurd (cc all.0.1)

  look_in_range : (entries : List Entry) (want : Want) → list_all is_storable entries ≡ true
      → list_all is_in_range (glimpse entries want).items ≡ true
  look_in_range entries wants_nothing all = refl
  look_in_range entries wants_front all = refl
  look_in_range entries (wants_items w) all =
      in_range_told entries w.since (given_of entries w)
      (all_take IsTold _ (picked_from entries w.selection w.place)
      (all_filter IsTold _ _
      (told_picked (λ x. is_picked w.selection entries x.0 x.1) (no_seal w.selection entries) 0
      entries all)))

  -- ---- a buffer

  module _ (size : ℕ) (some : 0 < size) where
    record IsHeld (told : List ToldItem) : Type 0 where
      buffer : IsBuffer size (items_of told)
      in_range : list_all is_in_range told ≡ true

    none_held : IsHeld []
    none_held = record {
      buffer = record { few = omega arith; open_before = λ j below. absurd (omega (arith, below)) };
      in_range = refl;
    }

    one_held : (item : ToldItem) → is_in_range item ≡ true → IsHeld (item ∷ [])
    one_held item is = record {
      buffer = record {
        few = omega (arith, some);
        open_before = λ j below. none_open j (omega (arith, below));
      };
      in_range = both_true _ _ is refl;
    }
      where
        none_complete : is_complete size [] ≡ false
        none_complete = grind (arith, some)

        none_open : (j : ℕ) → j ≤ 0 → is_complete size (take j (items_of (item ∷ []))) ≡ false
        none_open zero below = none_complete
        none_open (suc j) below = absurd (omega (arith, below))

    full_is_complete : (items : List Item) → size ≤ length items → is_complete size items ≡ true
    full_is_complete items long = grind (arith, long)

    not_both : (b : Bool) → b ≡ true → IsFalse b → ⊥
    not_both b is not_so = cc (sym is ∙ not_so)

    front_is : (items : List Item) → IsBuffer size (take (buffer_length size items) items)
    front_is items =
        let n = buffer_length size items in
        let long : length (take n items) ≡ n = length-take-le n items (laws.within size items) in
        record {
          few = omega (arith, long, few items);
          open_before = λ j below.
              ap (is_complete size) (front_front j n items (omega (arith, below, long)))
              ∙ laws.opens size items j (omega (arith, below, long));
        }
      where
        few : (items : List Item) → buffer_length size items ≤ size
        few items =
            ⊎_elim
            (λ more.
            let long : length (take size items) ≡ size =
            length-take-le size items (omega (arith, more, laws.within size items)) in
            absurd (not_both (is_complete size (take size items))
            (full_is_complete (take size items) (omega (arith, long)))
            (laws.opens size items size more)))
            (λ less. less) (cases_lt size (buffer_length size items))

    -- a buffer takes all that is in it already
    takes_all : (xs ys : List Item) → IsBuffer size xs → length xs ≤ buffer_length size (xs ++ ys)
    takes_all xs ys is =
        let n = buffer_length size (xs ++ ys) in
        ⊎_elim
        (λ less.
        let both : length (xs ++ ys) ≡ length xs + length ys = length-append xs ys in
        let full = laws.greatest size (xs ++ ys) (omega (arith, less, both)) in
        let front : take n (xs ++ ys) ≡ take n xs =
        take-append-le n xs ys (omega (arith, less)) in
        absurd (cc (sym (ap (is_complete size) front ∙ is.open_before n less) ∙ full)))
        (λ more. more) (cases_lt n (length xs))

    with_more : (xs ys : List ToldItem) → IsHeld xs → list_all is_in_range ys ≡ true
        → IsHeld (xs ++ take (buffer_length size (items_of xs ++ items_of ys) - length xs) ys)
    with_more xs ys is all =
        let n = buffer_length size (items_of xs ++ items_of ys) in
        let k = n - length xs in
        let same : length (items_of xs) ≡ length xs = length-map xs (λ (x : ToldItem). x.0) in
        let has = takes_all (items_of xs) (items_of ys) is.buffer in
        let whole : items_of (xs ++ take k ys) ≡ take n (items_of xs ++ items_of ys) =
        map-append (λ (x : ToldItem). x.0) xs (take k ys)
        ∙ ap (λ (zs : List Item). items_of xs ++ zs)
        (sym (take-map (λ (x : ToldItem). x.0) k ys))
        ∙ sym (take-append-add (items_of xs) (items_of ys) k)
        ∙ ap (λ (m : ℕ). take m (items_of xs ++ items_of ys)) (omega (arith, same, has)) in
        record {
          buffer = subst (IsBuffer size) (sym whole) (front_is (items_of xs ++ items_of ys));
          in_range =
              list_all-append is_in_range xs (take k ys)
              ∙ both_true _ _ is.in_range (true_take is_in_range k ys all);
        }

    held_if : (b : Bool) (xs ys : List ToldItem) → IsHeld xs → IsHeld ys
        → IsHeld (if b then xs else ys)
    held_if true xs ys first second = first
    held_if false xs ys first second = second

    -- ---- steps

    module _ (t : Terms) (size_is : t.size ≡ size) where
      head_held : (p : Placed) → IsHeld p.held → IsHeld (with_head p)
      head_held p is =
          held_if (p.owed && length p.held == 0) ((backlog, None) ∷ []) p.held
          (one_held (backlog, None) refl) is

      step_held : (g : Glimpse) (now : ℕ) (p : Placed) → list_all is_in_range g.items ≡ true
          → IsHeld p.held → IsHeld (placed_step t g now p).held
      step_held g now p all is = by (p.fixed || p.ended)
        where
          put : List ToldItem
          put = with_head p ++ take (taken_of t g p) g.items

          put_held : IsHeld put
          put_held = subst (λ (n : ℕ).
              IsHeld (with_head p
              ++ take (buffer_length n (items_of (with_head p) ++ items_of g.items) - length (with_head p))
              g.items)) (sym size_is) (with_more (with_head p) g.items (head_held p is) all)

          last : Bool
          last = g.closed && is_all_put t g p

          by : (b : Bool) → IsHeld (if b then p
              else fixed_where_due t last now (with_end_alone last (with_items t g now p))).held
          by true = is
          by false =
              held_if (length put == 0 && last) ((end_of_data, None) ∷ []) put
              (one_held (end_of_data, None) refl) put_held

      answer_held : (answer : Answer) (p : Placed) → IsHeld p.held
          → IsHeld (placed_answered t answer p).held
      answer_held whole p is = none_held
      answer_held stall p is =
          by (is_timely t.mode && list_any is_archived (items_of p.held))
        where
          by : (b : Bool) → IsHeld (if b then record (emptied p) { owed = true } else p).held
          by true = none_held
          by false = is
      answer_held fail p is = is

      round_held : (entries : List Entry) (r : Round) (p : Placed)
          → list_all is_storable entries ≡ true → IsHeld p.held
          → IsHeld (placed_after_round t entries r p).held
      round_held entries r p all is = answered (placed_answer_at r after)
        where
          after : Placed
          after = placed_at_round t entries r p

          stepped : (b : Bool) → IsHeld
              (if b then placed_step t (glimpse (take r.front entries) (want_of t p)) r.now p
              else p).held
          stepped true =
              step_held (glimpse (take r.front entries) (want_of t p)) r.now p
              (look_in_range (take r.front entries) (want_of t p)
              (true_take is_storable r.front entries all)) is
          stepped false = is

          answered : (o : Option Answer) → IsHeld
              (option_map_or (λ answer. placed_answered t answer after) o after).held
          answered None = stepped (takes_step r.link)
          answered (Some answer) = answer_held answer after (stepped (takes_step r.link))

      rounds_held : (entries : List Entry) (rounds : List Round) (p : Placed)
          → list_all is_storable entries ≡ true → IsHeld p.held
          → IsHeld (placed_after t entries rounds p).held
      rounds_held entries [] p all is = is
      rounds_held entries (r ∷ rounds) p all is =
          rounds_held entries rounds (placed_after_round t entries r p) all
          (round_held entries r p all is)

  pub held_fits : HeldFits
  held_fits c t entries rounds stands few =
      let p = placed_after t entries rounds (placed_at_start t) in
      let parts = and_parts (list_all is_storable entries) (is_ordered entries) stands.archive in
      let held = rounds_held t.size stands.some t refl entries rounds (placed_at_start t) parts.0
      (none_held t.size stands.some) in
      ap (λ (o : Option Run). fits_message (option_map_or (λ (r : Run). r.placed.held) o []))
      stands.run
      ∙ (laws.same.fit_same p.held ∙ laws.fit t.size p.held few held.buffer held.in_range)
