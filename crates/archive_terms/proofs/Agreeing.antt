-- A delivery that remembers a place does over rounds what the one does that counts in the picked
-- list.
use Rattle.std.proofs.Common.{◌≡◌, ℕ, ◌+◌, ◌<◌, ◌≤◌, Bool, true, false, cond, not, ◌&&◌, ◌||◌}
use Rattle.std.proofs.Common.{nat_eq, nat_lt, List, [], ◌∷◌, ◌++◌, length, map, take, drop, Option}
use Rattle.std.proofs.Common.{Some, None, refl, ap, sym, subst, ◌∙◌, arith, add-zero}
use Rattle.std.specs.Prelude.{is_none}
use Rattle.std.specs.List.{filter, list_any, filter_map, cons_option}
use Rattle.std.specs.Option.{option_to_list, option_map_or}
use Rattle.std.proofs.lemmas.List.{length-drop, length-append, length-take-le, take-append-drop}
use Rattle.std.proofs.lemmas.Bool.{or_right, false≢true, true≢false}
use Rattle.archive_terms.specs.Archive.{Entry, is_archive}
use Rattle.archive_terms.specs.Selection.{Selection, picked, is_stop_closed}
use Rattle.archive_terms.specs.Delivery.{Item, backlog, end_of_data, archived_items, is_complete}
use Rattle.archive_terms.specs.Delivery.{is_archived, is_backlog, is_end_of_data, is_timely, Terms}
use Rattle.archive_terms.specs.Delivery.{limit_of, Delivery, started, buffer, has_head}
use Rattle.archive_terms.specs.Delivery.{is_discardable, released, stepped, with_end}
use Rattle.archive_terms.specs.Delivery.{with_due_fixed}
use Rattle.archive_terms.specs.Rounds.{Answer, whole, stall, fail, Round, Outcome, nothing, handed}
use Rattle.archive_terms.specs.Rounds.{kept, discarded, failed, takes_step, at_round, answer_at}
use Rattle.archive_terms.specs.Rounds.{answered, fate, after_round, outcome, outcomes, is_failed}
use Rattle.archive_terms.specs.Rounds.{handed_buffer, handed_buffers, FrontsRise}
use Rattle.archive_terms.specs.Continuity.{told_items, told_buffers}
use Rattle.archive_terms.specs.Glimpse.{glimpse}
use Rattle.archive_terms.specs.Placed.{ToldItem, items_of, Placed, placed_at_start, with_head}
use Rattle.archive_terms.specs.Placed.{want_of}
use Rattle.archive_terms.specs.Placed.{with_items, is_all_put, with_end_alone, fixed_where_due}
use Rattle.archive_terms.specs.Placed.{placed_step, placed_answered, placed_at_round}
use Rattle.archive_terms.specs.Placed.{placed_answer_at, placed_after_round, placed_fate}
use Rattle.archive_terms.specs.Placed.{told_where, placed_outcomes}
use Rattle.archive_terms.proofs.Picks.{picked_behind, picked-append}
use Rattle.archive_terms.proofs.Buffers.{InLimits, room, room-le, nothing_complete}
use Rattle.archive_terms.proofs.Lists.{no_backlog}
use Rattle.archive_terms.proofs.States.{State, going, owing, telling, ending, over, held_of_more}
use Rattle.archive_terms.proofs.States.{State-stepped, State-answered}
use Rattle.archive_terms.proofs.Histories.{none_archived, some_held}
use Rattle.archive_terms.proofs.Prefixes.{no_end}
use Rattle.archive_terms.proofs.ToldBuffers.{stand_before, items_stay, held_stand}
use Rattle.archive_terms.proofs.Waiting.{from_place, all_from_first, waits_grow}
use Rattle.archive_terms.proofs.Runs.{front_grows, is_archive-take, held_within, State-longer}
use Rattle.archive_terms.proofs.Agreement.{Agrees, items_of-told, held_is_empty, end_same}
use Rattle.archive_terms.proofs.Agreement.{not_complete, Filled, fills}

-- ---- a step

module _ (t : Terms) (a : List Entry) (now : ℕ) (p : Placed) where
  abbrev chosen : List (ℕ × Entry)
  chosen = picked a t.selection

  abbrev stops : Bool
  stops = is_stop_closed t.selection a

  -- the buffer as it is filled, and whether nothing more is to be picked
  abbrev put : Placed
  put = with_items t (glimpse a (want_of t p)) now p

  abbrev last : Bool
  last = (glimpse a (want_of t p)).closed && is_all_put t (glimpse a (want_of t p)) p

  -- the delivery that counts, before its buffer is fixed
  abbrev unfixed : Option Item → Option Item → ℕ → ℕ → Bool → Delivery
  unfixed front head n since owed =
      record {
        settled = n;
        held = room t.size front (drop n chosen);
        head = head;
        owed = owed;
        fixed = false;
        since = since;
        ended = false;
      }

  -- the buffer that is held after filling, with end of data where it stands alone
  agrees_held : (front head : Option Item) (n since : ℕ) (owed : Bool) (held : List ToldItem)
      → 0 < t.size → Filled t a now p front n → p.owed ≡ owed → p.ended ≡ false
      → put.since ≡ since
      → held ≡ told_items a p.last (option_to_list head
      ++ archived_items (take (room t.size front (drop n chosen)) (drop n chosen)))
      → Agrees t a (fixed_where_due t last now (record put { held = held }))
      (with_due_fixed t chosen stops now (unfixed front head n since owed))
  agrees_held front head n since owed held some f owes goes moment is = record {
    held = is;
    waits = f.waits;
    within = f.within;
    owed = owes;
    fixed = rw (f.last, moment, is, items_of-told);
    since = moment;
    ended = goes;
    still = λ waits. not_complete t.size (limit_of t) now since ends items some waits;
  }
    where
      r : ℕ
      r = room t.size front (drop n chosen)

      items : List Item
      items = option_to_list head ++ archived_items (take r (drop n chosen))

      ends : Bool
      ends = stops && nat_eq (n + r) (length chosen)

  agrees_filled : (front : Option Item) (n since : ℕ) (owed : Bool) → 0 < t.size
      → Filled t a now p front n → p.owed ≡ owed → p.ended ≡ false → put.since ≡ since
      → Agrees t a (fixed_where_due t last now (with_end_alone last put))
      (with_due_fixed t chosen stops now (with_end chosen stops (unfixed front front n since owed)))
  agrees_filled front n since owed some f owes goes moment = rw tests (by_end test refl)
    where
      r : ℕ
      r = room t.size front (drop n chosen)

      empty : Bool
      empty = is_none front && nat_eq r 0

      test : Bool
      test = (true && empty) && stops && nat_eq n (length chosen)

      tests : (nat_eq (length put.held) 0 && last) ≡ test
      tests =
          ap (λ b. b && last) (ap (λ xs. nat_eq (length xs) 0) f.held
          ∙ held_is_empty a p.last front r (drop n chosen) (room-le t.size front (drop n chosen)))
          ∙ ap (λ b. empty && b) f.last ∙ sym (end_same empty stops n r (length chosen)
          (λ is. grind (arith, is)))

      by_end : (c : Bool) → test ≡ c → Agrees t a (fixed_where_due t last now
          (record put { held = cond c ((end_of_data, None) ∷ []) put.held }))
          (with_due_fixed t chosen stops now
          (unfixed front (cond c (Some end_of_data) front) n since owed))
      by_end true is =
          let none : r ≡ 0 = grind (arith, is) in
          agrees_held front (Some end_of_data) n since owed ((end_of_data, None) ∷ []) some f owes
          goes moment (rw none)
      by_end false is = agrees_held front front n since owed put.held some f owes goes moment f.held

  -- a delivery that is fixed or ended stays as it is, and another is filled
  steps_by : (d : Delivery) (b : Bool) → (p.fixed || p.ended) ≡ b
      → Agrees t a (cond b p (fixed_where_due t last now (with_end_alone last put))) d
      → Agrees t a (placed_step t (glimpse a (want_of t p)) now p) d
  steps_by d b is g =
      subst (λ b. Agrees t a (cond b p (fixed_where_due t last now (with_end_alone last put))) d)
      (sym is) g

  -- whether a buffer with this head and so many entries is empty
  abbrev is_bare : Option Item → ℕ → Bool
  is_bare head k = is_none head && nat_eq k 0

  steps : (first front : Option Item) (n k since : ℕ) (owed : Bool) → 0 < t.size
      → (p.fixed || p.ended) ≡ false → p.ended ≡ false → p.owed ≡ owed → p.since ≡ since
      → n + k ≤ length chosen
      → InLimits t.size (option_to_list front ++ archived_items (take k (drop n chosen)))
      → p.held ≡ told_items a p.last (option_to_list first
      ++ archived_items (take k (drop n chosen)))
      → with_head p ≡ told_items a p.last (option_to_list front
      ++ archived_items (take k (drop n chosen)))
      → filter (from_place p.place) chosen ≡ drop (n + k) chosen → p.place ≤ length a
      → Agrees t a (placed_step t (glimpse a (want_of t p)) now p)
      (with_due_fixed t chosen stops now (with_end chosen stops (unfixed front front n
      (cond (is_bare first k && not (is_bare front (room t.size front (drop n chosen)))) now since)
      owed)))
  steps first front n k since owed some goes unended owes moment fits limits held head waits
      within =
      steps_by _ false goes (agrees_filled front n (cond (is_bare first k && not (is_bare front r))
      now since) owed some f owes unended since_is)
    where
      r : ℕ
      r = room t.size front (drop n chosen)

      f : Filled t a now p front n
      f = fills t a now p front n k some goes fits limits head waits within

      since_is : put.since ≡ cond (is_bare first k && not (is_bare front r)) now since
      since_is =
          ap (λ b. cond (b && not (nat_eq (length put.held) 0)) now p.since)
          (ap (λ xs. nat_eq (length xs) 0) held
          ∙ held_is_empty a p.last first k (drop n chosen) (omega (arith, length-drop n chosen)))
          ∙ ap (λ b. cond (is_bare first k && not b) now p.since)
          (ap (λ xs. nat_eq (length xs) 0) f.held
          ∙ held_is_empty a p.last front r (drop n chosen) (room-le t.size front (drop n chosen)))
          ∙ ap (λ s. cond (is_bare first k && not (is_bare front r)) now s) moment

pub Agrees-stepped : (t : Terms) (a : List Entry) (now : ℕ) (p : Placed) (d : Delivery) → 0 < t.size
    → State t (picked a t.selection) (is_stop_closed t.selection a) d → Agrees t a p d
    → Agrees t a (placed_step t (glimpse a (want_of t p)) now p)
    (stepped t (picked a t.selection) (is_stop_closed t.selection a) now d)
Agrees-stepped t a now p d some (going n k true since fits limits) g =
    steps_by t a now p d true (ap (λ b. b || p.ended) g.fixed) g
Agrees-stepped t a now p d some (going n k false since fits limits) g =
    steps t a now p None None n k since false some (rw (g.fixed, g.ended)) g.ended g.owed g.since
    fits limits g.held (rw g.owed g.held) g.waits g.within
Agrees-stepped t a now p d some (owing n since fits timely) g =
    steps t a now p None (Some backlog) n 0 since true some (rw (g.fixed, g.ended)) g.ended
    g.owed g.since (omega arith)
    (one_in_limits t.size some) g.held (rw (g.owed, g.held)) g.waits g.within
  where
    one_in_limits : (size : ℕ) → 0 < size → InLimits size (backlog ∷ [])
    one_in_limits size some = record {
      open_before = λ j below. let first : j ≡ 0 = omega arith in
          rw first (nothing_complete size some);
    }
Agrees-stepped t a now p d some (telling n k true since fits limits timely) g =
    steps_by t a now p d true (ap (λ b. b || p.ended) g.fixed) g
Agrees-stepped t a now p d some (telling n k false since fits limits timely) g =
    steps t a now p (Some backlog) (Some backlog) n k since true some (rw (g.fixed, g.ended))
    g.ended g.owed g.since fits limits g.held
    (ap (λ b. cond (p.owed && b) ((backlog, None) ∷ []) p.held)
    (ap (λ xs. nat_eq (length xs) 0) g.held
    ∙ held_is_empty a p.last (Some backlog) k (drop n (picked a t.selection))
    (omega (arith, length-drop n (picked a t.selection))))
    ∙ ap (λ b. cond (b && false) ((backlog, None) ∷ []) p.held) g.owed ∙ g.held) g.waits g.within
Agrees-stepped t a now p d some (ending n k true since all none is shut) g =
    steps_by t a now p d true (ap (λ b. b || p.ended) g.fixed) g
Agrees-stepped t a now p d some (ending n k false since all none is shut) g = absurd (false≢true is)
Agrees-stepped t a now p d some (over n k true since all none is shut) g = absurd (true≢false is)
Agrees-stepped t a now p d some (over n k false since all none is shut) g =
    steps_by t a now p _ true (or_right p.fixed p.ended g.ended) (record {
      held = rw none_more (rw none at g.held);
      waits = rw none_more (rw none at g.waits);
      within = g.within;
      owed = g.owed;
      fixed = rw none_more g.fixed;
      since = rw (none_more, none) g.since;
      ended = g.ended;
      still = λ _. rw none_more (nothing_complete t.size some);
    })
  where
    xs : List (ℕ × Entry)
    xs = drop n (picked a t.selection)

    more : ℕ
    more = room t.size None xs

    none_more : more ≡ 0
    none_more = omega (arith, room-le t.size None xs, length-drop n (picked a t.selection), all)

-- ---- an answer

-- whether a picked entry is held
entries_held : (t : Terms) (entries : List (ℕ × Entry)) (closed : Bool) (d : Delivery)
    → State t entries closed d
    → list_any is_archived (buffer entries d) ≡ nat_lt 0 d.held
entries_held t entries closed d s =
    grind (arith, some_in t entries closed d s, none_archived t entries closed d s)
  where
    some_in : (t : Terms) (entries : List (ℕ × Entry)) (closed : Bool) (d : Delivery)
        → State t entries closed d → 0 < d.held
        → list_any is_archived (buffer entries d) ≡ true
    some_in t entries closed d (going n k fixed since fits limits) more =
        some_held n k entries fits more
    some_in t entries closed d (telling n k fixed since fits limits timely) more =
        some_held n k entries fits more
    some_in t entries closed d (owing n since fits timely) more = absurd (omega arith)
    some_in t entries closed d (ending n k fixed since all none is shut) more = grind arith
    some_in t entries closed d (over n k fixed since all none is shut) more = grind arith

backlog_held : (t : Terms) (entries : List (ℕ × Entry)) (closed : Bool) (d : Delivery)
    → State t entries closed d
    → list_any is_backlog (buffer entries d) ≡ has_head is_backlog d
backlog_held t entries closed d (going n k fixed since fits limits) =
    no_backlog (take k (drop n entries))
backlog_held t entries closed d (telling n k fixed since fits limits timely) = refl
backlog_held t entries closed d (owing n since fits timely) = refl
backlog_held t entries closed d (ending n k fixed since all none is shut) =
    no_backlog (take k (drop n entries))
backlog_held t entries closed d (over n k fixed since all none is shut) =
    no_backlog (take k (drop n entries))

end_held : (t : Terms) (entries : List (ℕ × Entry)) (closed : Bool) (d : Delivery) → d.fixed ≡ true
    → State t entries closed d
    → list_any is_end_of_data (buffer entries d) ≡ (d.ended || has_head is_end_of_data d)
end_held t entries closed d is (going n k fixed since fits limits) =
    no_end (take k (drop n entries))
end_held t entries closed d is (telling n k fixed since fits limits timely) =
    no_end (take k (drop n entries))
end_held t entries closed d is (owing n since fits timely) = absurd (false≢true is)
end_held t entries closed d is (ending n k fixed since all none fix shut) = refl
end_held t entries closed d is (over n k fixed since all none fix shut) =
    absurd (false≢true (sym fix ∙ is))

items_same : (t : Terms) (a : List Entry) (p : Placed) (d : Delivery) → Agrees t a p d
    → items_of p.held ≡ buffer (picked a t.selection) d
items_same t a p d g = ap items_of g.held ∙ items_of-told a p.last (buffer (picked a t.selection) d)

none_waits : (t : Terms) (a : List Entry) (p : Placed) (d : Delivery) → Agrees t a p d
    → filter (from_place p.place) (picked a t.selection)
    ≡ drop ((d.settled + d.held) + 0) (picked a t.selection)
none_waits t a p d g = rw add-zero g.waits

discards_same : (t : Terms) (a : List Entry) (p : Placed) (d : Delivery)
    → State t (picked a t.selection) (is_stop_closed t.selection a) d → Agrees t a p d
    → (is_timely t.mode && list_any is_archived (items_of p.held)) ≡ is_discardable t.mode d
discards_same t a p d s g =
    rw (
      items_same t a p d g,
      entries_held t (picked a t.selection) (is_stop_closed t.selection a) d s,
    )

pub Agrees-answered : (t : Terms) (a : List Entry) (answer : Answer) (p : Placed) (d : Delivery)
    → 0 < t.size → d.fixed ≡ true
    → State t (picked a t.selection) (is_stop_closed t.selection a) d → Agrees t a p d
    → Agrees t a (placed_answered t answer p) (answered t answer d)
Agrees-answered t a whole p d some is s g = record {
  held = refl;
  waits = none_waits t a p d g;
  within = g.within;
  owed = rw (
    g.owed,
    items_same t a p d g,
    backlog_held t (picked a t.selection) (is_stop_closed t.selection a) d s,
  );
  fixed = refl;
  since = g.since;
  ended =
      ap (list_any is_end_of_data) (items_same t a p d g)
      ∙ end_held t (picked a t.selection) (is_stop_closed t.selection a) d is s;
  still = λ _. nothing_complete t.size some;
}
Agrees-answered t a fail p d some is s g = g
Agrees-answered t a stall p d some is s g =
    rw (discards_same t a p d s g) (by_test (is_discardable t.mode d))
  where
    dropped : Placed
    dropped = record p { held = []; fixed = false; owed = true }

    by_test : (b : Bool) → Agrees t a (cond b dropped p)
        (cond b (record (released d) { owed = true }) d)
    by_test true = assumption (none_waits t a p d g, nothing_complete t.size some, g)
    by_test false = g

-- ---- a longer archive

buffer_stands : (t : Terms) (a : List Entry) (closed : Bool) (d : Delivery)
    → State t (picked a t.selection) closed d
    → stand_before (length a) (buffer (picked a t.selection) d) ≡ true
buffer_stands t a closed d (going n k fixed since fits limits) = held_stand a t.selection n k
buffer_stands t a closed d (telling n k fixed since fits limits timely) =
    held_stand a t.selection n k
buffer_stands t a closed d (owing n since fits timely) = refl
buffer_stands t a closed d (ending n k fixed since all none is shut) = held_stand a t.selection n k
buffer_stands t a closed d (over n k fixed since all none is shut) = held_stand a t.selection n k

Agrees-grow : (t : Terms) (a b : List Entry) (p : Placed) (d : Delivery)
    → State t (picked a t.selection) (is_stop_closed t.selection a) d → Agrees t a p d
    → Agrees t (a ++ b) p d
Agrees-grow t a b p d s g = record {
  held = g.held ∙ sym (items_stay a b p.last (buffer (picked a t.selection) d)
      (buffer_stands t a (is_stop_closed t.selection a) d s))
      ∙ ap (told_items (a ++ b) p.last) (sym same);
  waits = waits_grow a b t.selection p.place (d.settled + d.held) g.within fits g.waits;
  within = omega (arith, g.within, length-append a b);
  owed = g.owed;
  fixed = g.fixed;
  since = g.since;
  ended = g.ended;
  still = λ unfixed. ap (is_complete t.size) same ∙ g.still unfixed;
}
  where
    fits : d.settled + d.held ≤ length (picked a t.selection)
    fits = held_within t (picked a t.selection) (is_stop_closed t.selection a) d s

    same : buffer (picked (a ++ b) t.selection) d ≡ buffer (picked a t.selection) d
    same = rw (picked-append, held_of_more d.settled d.held _ (picked_behind a b t.selection) fits)

-- ---- rounds

-- both deliveries at a front
record Both (t : Terms) (entries : List Entry) (f : ℕ) (p : Placed) (d : Delivery) : Type 0 where
  state : State t (picked (take f entries) t.selection)
      (is_stop_closed t.selection (take f entries)) d
  agrees : Agrees t (take f entries) p d

Both-further : (t : Terms) (entries : List Entry) (f g : ℕ) (p : Placed) (d : Delivery)
    → is_archive entries ≡ true → f ≤ g
    → Both t entries f p d → Both t entries g p d
Both-further t entries f g p d archive rise both =
    let s : Selection = t.selection in
    let a : List Entry = take f entries in
    let b : List Entry = drop f (take g entries) in
    let to : a ++ b ≡ take g entries = front_grows entries f g rise in
    let longer : is_archive (a ++ b) ≡ true = ap is_archive to
    ∙ is_archive-take entries g archive in
    record {
      state = rw to at (State-longer t a b d longer both.state);
      agrees = rw to at (Agrees-grow t a b p d both.state both.agrees);
    }

Both-at : (t : Terms) (entries : List Entry) (r : Round) (p : Placed) (d : Delivery) → 0 < t.size
    → Both t entries r.front p d → Both t entries r.front (placed_at_round t entries r p)
    (at_round t entries r d)
Both-at t entries r p d some both = on_step (takes_step r.link)
  where
    a : List Entry
    a = take r.front entries

    on_step : (b : Bool) → Both t entries r.front
        (cond b (placed_step t (glimpse a (want_of t p)) r.now p) p)
        (cond b (stepped t (picked a t.selection) (is_stop_closed t.selection a) r.now d) d)
    on_step true = record {
      state = State-stepped t (picked a t.selection) (is_stop_closed t.selection a) r.now d some
          both.state;
      agrees = Agrees-stepped t a r.now p d some both.state both.agrees;
    }
    on_step false = both

answers_same : (t : Terms) (entries : List Entry) (r : Round) (p : Placed) (d : Delivery)
    → Both t entries r.front p d
    → placed_answer_at r p ≡ answer_at r d
answers_same t entries r p d both = rw both.agrees.fixed

Both-answered : (t : Terms) (entries : List Entry) (f : ℕ) (p : Placed) (d : Delivery)
    (answer : Option Answer) → 0 < t.size
    → ((x : Answer) → answer ≡ Some x → d.fixed ≡ true) → Both t entries f p d
    → Both t entries f (option_map_or (λ x. placed_answered t x p) answer p)
    (option_map_or (λ x. answered t x d) answer d)
Both-answered t entries f p d None some fix both = both
Both-answered t entries f p d (Some answer) some fix both = record {
  state = State-answered t (picked (take f entries) t.selection)
      (is_stop_closed t.selection (take f entries)) answer d (fix answer refl) both.state;
  agrees = Agrees-answered t (take f entries) answer p d some (fix answer refl) both.state
      both.agrees;
}

Both-round : (t : Terms) (entries : List Entry) (r : Round) (p : Placed) (d : Delivery) → 0 < t.size
    → Both t entries r.front p d → Both t entries r.front (placed_after_round t entries r p)
    (after_round t entries r d)
Both-round t entries r p d some both =
    let at : Both t entries r.front (placed_at_round t entries r p) (at_round t entries r d) =
    Both-at t entries r p d some both in
    let q : Placed = placed_at_round t entries r p in
    let e : Delivery = at_round t entries r d in
    rw (answers_same t entries r q e at) (Both-answered t entries r.front q e (answer_at r e) some
    (λ x is. grind (arith, is)) at)

-- the same was done
fates_same : (t : Terms) (a : List Entry) (p : Placed) (d : Delivery) (answer : Option Answer)
    → State t (picked a t.selection) (is_stop_closed t.selection a) d → Agrees t a p d
    → option_map_or (λ x. placed_fate t x (items_of p.held)) answer nothing
    ≡ option_map_or (λ x. fate t x d (buffer (picked a t.selection) d)) answer nothing
fates_same t a p d None s g = refl
fates_same t a p d (Some whole) s g = ap handed (items_same t a p d g)
fates_same t a p d (Some fail) s g = ap failed (items_same t a p d g)
fates_same t a p d (Some stall) s g =
    rw (discards_same t a p d s g, items_same t a p d g)

-- what was handed over is told as the items that it is, and the last frame goes on
told_same : (t : Terms) (entries : List Entry) (p : Placed) (d : Delivery) (f : ℕ)
    (answer : Option Answer) (rest : List (List Item))
    → Both t entries f p d
    → told_buffers entries p.last (cons_option
    (handed_buffer (option_map_or (λ x. fate t x d
    (buffer (picked (take f entries) t.selection) d)) answer nothing)) rest)
    ≡ cons_option (option_map_or (λ x. told_where x p.held) answer None)
    (told_buffers entries (option_map_or (λ x. placed_answered t x p) answer p).last rest)
told_same t entries p d f None rest both = refl
told_same t entries p d f (Some fail) rest both = refl
told_same t entries p d f (Some stall) rest both =
    by_test (is_timely t.mode && list_any is_archived (items_of p.held)) (is_discardable t.mode d)
  where
    b : List Item
    b = buffer (picked (take f entries) t.selection) d

    by_test : (x y : Bool)
        → told_buffers entries p.last (cons_option (handed_buffer (cond y (discarded b) (kept b)))
        rest)
        ≡ told_buffers entries (cond x (record p { held = []; fixed = false; owed = true }) p).last
        rest
    by_test true true = refl
    by_test true false = refl
    by_test false true = refl
    by_test false false = refl
told_same t entries p d f (Some whole) rest both =
    let g : Agrees t (take f entries) p d = both.agrees in
    let b : List Item = buffer (picked (take f entries) t.selection) d in
    let stand : stand_before (length (take f entries)) b ≡ true =
    buffer_stands t (take f entries) (is_stop_closed t.selection (take f entries)) d both.state in
    let told : told_items entries p.last b ≡ p.held =
    ap (λ xs. told_items xs p.last b) (sym (take-append-drop f entries))
    ∙ items_stay (take f entries) (drop f entries) p.last b stand ∙ sym g.held in
    rw (told, items_same t (take f entries) p d g)

-- a run that ends here, or goes on as another does
ends_same : {A B C : Type 0} (f : List A → C) (g : List B → C) (c : Bool) (xs : List A)
    (ys : List B) → f [] ≡ g [] → f xs ≡ g ys → f (cond c [] xs) ≡ g (cond c [] ys)
ends_same f g true xs ys none same = none
ends_same f g false xs ys none same = same

-- over rounds
pub record Same (t : Terms) (entries : List Entry) (rounds : List Round) (p : Placed)
    (d : Delivery) : Type 0 where
  pub steps : map (λ x. x.0) (placed_outcomes t entries rounds p) ≡ outcomes t entries rounds d
  pub told : filter_map (λ (x : Outcome × Option (List ToldItem)). x.1)
      (placed_outcomes t entries rounds p)
      ≡ told_buffers entries p.last (handed_buffers (outcomes t entries rounds d))

same_rounds : (t : Terms) (entries : List Entry) (f : ℕ) (rounds : List Round) (p : Placed)
    (d : Delivery) → 0 < t.size → is_archive entries ≡ true
    → FrontsRise f rounds → Both t entries f p d → Same t entries rounds p d
same_rounds t entries f [] p d some archive rise both = record { steps = refl; told = refl }
same_rounds t entries f (r ∷ rounds) p d some archive rise both =
    one_more (Both-at t entries r p d some there) (same_rounds t entries r.front rounds
    (placed_after_round t entries r p) (after_round t entries r d) some archive rise.1
    (Both-round t entries r p d some there))
  where
    there : Both t entries r.front p d
    there = Both-further t entries f r.front p d archive rise.0 both

    q : Placed
    q = placed_at_round t entries r p

    e : Delivery
    e = at_round t entries r d

    answer : Option Answer
    answer = answer_at r e

    last : Bool
    last = (glimpse (take r.front entries) (want_of t p)).closed
        && is_all_put t (glimpse (take r.front entries) (want_of t p)) p

    last_kept : (b c : Bool) → (cond b (cond c p
        (fixed_where_due t last r.now (with_end_alone last
        (with_items t (glimpse (take r.front entries) (want_of t p)) r.now p)))) p).last ≡ p.last
    last_kept true true = refl
    last_kept true false = refl
    last_kept false c = refl

    -- the placed delivery after the answer, what it did, and what it does later
    after : Option Answer → Placed
    after x = option_map_or (λ y. placed_answered t y q) x q

    did : Option Answer → Outcome × Option (List ToldItem)
    did x = (
      option_map_or (λ y. placed_fate t y (items_of q.held)) x nothing,
      option_map_or (λ y. told_where y q.held) x None,
    )

    does : Option Answer → List (Outcome × Option (List ToldItem))
    does x = did x ∷ cond (is_failed r.link x) [] (placed_outcomes t entries rounds (after x))

    one_more : Both t entries r.front q e
        → Same t entries rounds (placed_after_round t entries r p) (after_round t entries r d)
        → Same t entries (r ∷ rounds) p d
    one_more at later =
        let same : placed_answer_at r q ≡ answer = answers_same t entries r q e at in
        let further : Same t entries rounds (after answer) (after_round t entries r d) =
        rw same at later in
        let failed_at : Bool = is_failed r.link answer in
        let kept_last : q.last ≡ p.last = last_kept (takes_step r.link) (p.fixed || p.ended) in
        record {
          steps =
              rw (same, fates_same t (take r.front entries) q e answer at.state at.agrees)
              (ap (λ xs. outcome t entries r d ∷ xs)
              (ends_same (map (λ y. y.0)) (λ ys. ys) failed_at
              (placed_outcomes t entries rounds (after answer))
              (outcomes t entries rounds (after_round t entries r d)) refl further.steps));
          told =
              ap (λ x. filter_map (λ (y : Outcome × Option (List ToldItem)). y.1) (does x)) same
              ∙ ap (cons_option (did answer).1) (ends_same
              (filter_map (λ (y : Outcome × Option (List ToldItem)). y.1))
              (λ ys. told_buffers entries (after answer).last (handed_buffers ys)) failed_at
              (placed_outcomes t entries rounds (after answer))
              (outcomes t entries rounds (after_round t entries r d)) refl further.told)
              ∙ sym (told_same t entries q e r.front answer
              (handed_buffers (cond failed_at []
              (outcomes t entries rounds (after_round t entries r d)))) at)
              ∙ ap (λ l. told_buffers entries l
              (handed_buffers (outcomes t entries (r ∷ rounds) d))) kept_last;
        }

pub same_run : (t : Terms) (entries : List Entry) (rounds : List Round) → 0 < t.size
    → is_archive entries ≡ true
    → t.selection.first ≤ length entries → FrontsRise t.selection.first rounds
    → Same t entries rounds (placed_at_start t) started
same_run t entries rounds some archive first rise =
    same_rounds t entries t.selection.first rounds (placed_at_start t) started some archive rise
    (record {
      state = going 0 0 false 0 (omega arith)
          (record { open_before = λ j below. absurd (omega arith) });
      agrees = record {
        held = refl;
        waits = all_from_first (take t.selection.first entries) t.selection;
        within = omega (arith, length-take-le t.selection.first entries first);
        owed = refl;
        fixed = refl;
        since = refl;
        ended = refl;
        still = λ _. nothing_complete t.size some;
      };
    })
