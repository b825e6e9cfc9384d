-- Each step keeps the rule of the table.
use Rattle.std.proofs.Common.{◌≡◌, ◌≢◌, ◌⊎◌, ◌==◌, ℕ, zero, suc, ◌+◌, ◌-◌, ◌%◌, ◌^◌, ◌<◌, ◌≤◌, List}
use Rattle.std.proofs.Common.{[], ◌∷◌, ◌++◌, set, get_or, length, length-append, slice_get, Option}
use Rattle.std.proofs.Common.{Some, None, IsSome, inl, inr, ⊎_elim, refl, sym, ap, ◌∙◌, subst}
use Rattle.std.proofs.Common.{arith, eq-eqb, ne_eqb}
use Rattle.std.specs.List.{sum_by}
use Rattle.std.proofs.lemmas.List.Sums.{sum_by-cons, sum_by-append}
use mathlib.Core.List.{IsPrefix}
use mathlib.Core.Logic.{dite}
use mathlib.Core.Option.{none, some}
use mathlib.Core.Option as maybe
use native.Mathlib.Decide.{ℕ_discrete}
use lib.ListN.{get_elem?}
use prog.Atomic.{either}
use Rattle.atomic_table.specs.Table.{State, Me, opening, step, keeps, takes, gives, rest, Allows}
use Rattle.atomic_table.specs.Table.{Splits, Joins}
use Rattle.atomic_table.proofs.Lists.{at_set, at_snoc, at_longer, set_else}
use Rattle.turn_lock.specs.declared.view.View.{View}
use Rattle.turn_lock.specs.Own.{counts, mark, times, total, AllStand, MakeUp}
use Rattle.turn_lock.specs.Rule.{own_lists, pending, is_ticket, with_added, fresh_view, spent_view}
use Rattle.turn_lock.specs.Rule.{IsOf, Fits, IsHome, IsOut, TableStands}
use Rattle.turn_lock.specs.Steps.{entering, finding, holding, seeing, adding, resting, giving}
use Rattle.turn_lock.specs.Steps.{given, Draws, Takes, Looks, Sees, Adds, Ends, Learns, Closes}
use Rattle.turn_lock.proofs.Prefixes.{prefix_self, prefix_trans}
use Rattle.turn_lock.proofs.Owned.{one_more, all_on, stand_last, times_last, times_few}
use Rattle.turn_lock.proofs.Sums.{sum_set, one_of, two_of, sum_none, sum_only, here_set}

pub some_is : {A : Type 0} (o : Option A) → IsSome o → (a : A) × (o ≡ Some a)
some_is (Some a) k = (a, refl)
some_is None k = absurd (cc k)

-- a seat that took the value holds it first
pub held_first : {T E O : Type 0} (origin : T → O) (stands : T → List E
    → Type 0) (v : View E O) (m t : Me (Option T) (View E O)) → Takes origin stands v m t
    → (y : Option T) × (t.1 ≡ (0, y) ∷ rest t.1) × IsSome y
held_first {T = T} {E = E} {O = O} origin stands v m t takes_it =
    (Some takes_it.0, cc (takes_it.2), refl)

module _ {T E O : Type 0} (origin : T → O) (stands : T → List E
    → Type 0) (first : O) (turns : ℕ) where
  abbrev V : Type 0
  V = View E O

  abbrev S : Type 0
  S = State (Option T) V

  abbrev M : Type 0
  M = Me (Option T) V

  abbrev Rule : S → Type 0
  Rule = TableStands origin stands first turns

  of_same : (v w : V) → w.turns ≡ v.turns → v ≢ spent_view → (o : Option O) → IsOf first turns v o
      → IsOf first turns w o
  of_same v w t some_view o k = grind arith

  is_view : (v : V) (o : O) → v.origin ≡ Some o → v ≢ spent_view
  is_view v o is e = absurd (cc)

  -- what holds of the new view and of the others holds of each
  each_set : (P : V → Type 0) (views : List V) (id : ℕ) (w : V) → P w
      → ((j : ℕ) (u : V) → j ≢ id → get_elem? views j ≡ some u → P u)
      → (j : ℕ) (u : V) → get_elem? (set views id w) j ≡ some u → P u
  each_set P views id w here others j u e = elim (at_set views id j w u e)
      [ inl t ↦ subst P t.1 here | inr t ↦ others j u t.0 t.1 ]

  abbrev Homes : Type 0
  Homes = List (maybe.Option (Option T))

  -- the seat `id` goes from v to w, and the words, the history and the slot change
  moved : (s : S) (r : Rule s) (id : ℕ) (v w : V) (ticket serving : ℕ) (log : List E)
      (homes : Homes) → get_elem? s.views id ≡ some v → (r.ticket ≤ ticket)
      × ((n : ℕ) → is_ticket n v.ticket < is_ticket n w.ticket → (r.ticket ≤ n) × (n < ticket))
      × ((serving + counts w.ticket) + r.ticket ≡ (r.serving + counts v.ticket) + ticket)
      × (w.entered + r.ticket ≡ v.entered + ticket)
      × ((length log + pending w) + r.ticket ≤ (length r.log + pending v) + ticket)
      × (w.left + ticket ≤ v.left + r.ticket) × (w.found ≤ ticket)
      → ((k : ℕ) → times k (own_lists w) + counts (slice_get r.log k)
      ≡ times k (own_lists v) + counts (slice_get log k))
      → Fits first turns serving log homes w → ((j : ℕ) (u : V) → j ≢ id
      → get_elem? s.views j ≡ some u → Fits first turns serving log homes u)
      → IsHome origin stands first log homes ⊎ IsOut homes (set s.views id w)
      → Rule record {
        words = ticket ∷ serving ∷ length log ∷ [];
        homes = homes;
        views = set s.views id w;
      }
  moved s r id v w ticket serving log homes at counted places mine others slot =
      let sums = λ (f : V → ℕ). sum_set f s.views id v w at in
      let tickets = λ (n : ℕ). sums (λ u. is_ticket n u.ticket) in
      record {
        ticket = ticket;
        serving = serving;
        log = log;
        words = refl;
        waiting = omega (arith, sums (λ u. counts u.ticket), r.waiting);
        once = λ n. grind (arith, tickets n, r.once n, r.undrawn n, counted.1 n);
        undrawn = λ n l. grind (arith, tickets n, r.undrawn n, counted.1 n);
        entered = omega (arith, sums (λ u. u.entered), r.entered);
        heard = each_set (λ x. x.found ≤ ticket) s.views id w counted.6
            (λ j u _ e. omega (arith, r.heard j u e));
        once_each = λ k. omega (arith, sums (λ u. times k (own_lists u)), r.once_each k, places k);
        few = omega (arith, sums pending, r.few);
        bounded = omega (arith, sums (λ u. u.left), r.bounded);
        each_view = each_set (Fits first turns serving log homes) s.views id w mine others;
        slot = slot;
      }

  -- a view that has no value fits whatever the slot has
  fits_free : (serving : ℕ) (log : List E) (homes : Homes) (w : V) → w.kept ≡ None
      → IsOf first turns w w.origin → (counts w.ticket ≤ w.entered) × (counts w.added ≤ 0)
      × (total (own_lists w) + pending w ≤ w.entered) → IsPrefix w.seen log
      → IsPrefix w.beginning w.seen → AllStand log (own_lists w)
      → Fits first turns serving log homes w
  fits_free serving log homes w no_value of counted prefix begins own = grind arith

  abbrev HomeOrOut : List E → Homes → List V → Type 0
  HomeOrOut log homes views = IsHome origin stands first log homes ⊎ IsOut homes views

  same_view : (views : List V) (i j : ℕ) (v u : V) → j ≡ i → get_elem? views i ≡ some v
      → get_elem? views j ≡ some u → u ≡ v
  same_view views i j v u e at there = cc

  -- the value is where it was
  out_stays : (homes : Homes) (views : List V) (id : ℕ) (v w : V) → get_elem? views id ≡ some v
      → w.kept ≡ v.kept → IsOut homes views → IsOut homes (set views id w)
  out_stays homes views id v w at still out = let j = out.0 in let u = out.1 in
      dite (ℕ_discrete j id)
      (λ (e : j ≡ id). let same : u ≡ v = same_view views id j v u e at out.4 in
      (id, w, out.2, out.3, here_set views id v w at, cc (still, out.5)))
      (λ (other : j ≢ id). (j, u, out.2, out.3, set_else views id j w other ∙ out.4, out.5))

  slot_stays : (log : List E) (homes : Homes) (views : List V) (id : ℕ) (v w : V)
      → get_elem? views id ≡ some v → w.kept ≡ v.kept → HomeOrOut log homes views
      → HomeOrOut log homes (set views id w)
  slot_stays log homes views id v w at still = ⊎_elim inl
      (λ out. inr (out_stays homes views id v w at still out))

  -- the history goes on while a seat has the value
  slot_goes_on : (log more : List E) (homes : Homes) (views : List V) (id : ℕ) (v w : V)
      → get_elem? views id ≡ some v → w.kept ≡ v.kept → homes ≡ none ∷ []
      → HomeOrOut log homes views → HomeOrOut more homes (set views id w)
  slot_goes_on log more homes views id v w at still empty (inl home) =
      absurd (cc (home.1))
  slot_goes_on log more homes views id v w at still empty (inr out) =
      inr (out_stays homes views id v w at still out)

  longer_views : (log : List E) (homes : Homes) (views : List V) (w : V) → HomeOrOut log homes views
      → HomeOrOut log homes (views ++ w ∷ [])
  longer_views log homes views w (inl home) = inl home
  longer_views log homes views w (inr out) =
      inr (out.0, out.1, out.2, out.3, at_longer views (w ∷ []) out.0 out.1 out.4, out.5)

  one_view : (P : V → Type 0) (v : V) → P v → (j : ℕ) (u : V) → get_elem? (v ∷ []) j ≡ some u → P u
  one_view P v p zero u e = subst P (cc e) p
  one_view P v p (suc j) u e = absurd (cc e)

  -- a new table, whose value stands for no events
  pub starts : (slots : List (Option T)) (x : T) → slots ≡ Some x ∷ [] → origin x ≡ first
      → stands x [] → Rule (opening (0 ∷ 0 ∷ 0 ∷ []) slots (fresh_view first turns (turns + 1)))
  starts slots x full mine st =
      let v : V = fresh_view first turns (turns + 1) in
      let sums = λ (f : V → ℕ). sum_by-cons f v [] in
      rw full (record {
        ticket = 0;
        serving = 0;
        log = [];
        words = refl;
        waiting = omega (arith, sums (λ u. counts u.ticket));
        once = λ n. omega (arith, sums (λ u. is_ticket n u.ticket));
        undrawn = λ n l. omega (arith, sums (λ u. is_ticket n u.ticket));
        entered = omega (arith, sums (λ u. u.entered));
        heard = one_view (λ u. u.found ≤ 0) v (omega arith);
        once_each = λ k. omega (arith, sums (λ u. times k (own_lists u)));
        few = omega (arith, sums pending);
        bounded = omega (arith, sums (λ u. u.left));
        each_view = one_view (Fits first turns 0 [] (some (Some x) ∷ [])) v
            (fits_free 0 [] _ v refl (refl, refl) (omega arith) ([], refl) ([], refl) (tt, tt));
        slot = inl (x, refl, mine, st);
      })

  -- another seat with this ticket is no other seat
  one_seat : (s : S) (r : Rule s) (i j : ℕ) (v u : V) (n : ℕ) → get_elem? s.views i ≡ some v
      → get_elem? s.views j ≡ some u → v.ticket ≡ Some n → u.ticket ≡ Some n → j ≡ i
  one_seat s r i j v u n at there e d =
      grind (arith, two_of (λ (x : V). is_ticket n x.ticket) s.views j i u v, r.once n)

  -- the seat read a word, and has seen so much of the history
  reads : (s : S) (r : Rule s) (id : ℕ) (v : V) (found : ℕ) (seen : List E)
      → get_elem? s.views id ≡ some v → v ≢ spent_view → found ≤ r.ticket → IsPrefix seen r.log
      → IsPrefix v.beginning seen → Rule record {
        words = r.ticket ∷ r.serving ∷ length r.log ∷ [];
        homes = s.homes;
        views = set s.views id (record v { found = found; seen = seen });
      }
  reads s r id v found seen at some_view few prefix begins =
      let w : V = record v { found = found; seen = seen } in
      let fit : Fits first turns r.serving r.log s.homes v = r.each_view id v at in
      moved s r id v w r.ticket r.serving r.log s.homes at (omega arith) (λ k. refl)
      (assumption (of_same v w refl some_view v.origin fit.of, prefix, begins, fit))
      (λ j u _ e. r.each_view j u e) (slot_stays r.log s.homes s.views id v w at refl r.slot)

  -- who is served has the value, and the others fit what comes after
  others_fit : (s : S) (r : Rule s) (id : ℕ) (v : V) (serving : ℕ) (log : List E) (homes : Homes)
      → get_elem? s.views id ≡ some v → v.ticket ≡ Some r.serving → IsPrefix r.log log
      → (j : ℕ) (u : V) → j ≢ id → get_elem? s.views j ≡ some u
      → Fits first turns serving log homes u
  others_fit s r id v serving log homes at served on j u other there =
      let f : Fits first turns r.serving r.log s.homes u = r.each_view j u there in
      let holding : (h : List E) → u.kept ≡ Some h
      → (u.ticket ≡ Some serving) × (homes ≡ none ∷ []) × (log ≡ with_added h u.added) =
      λ h e. absurd (other (one_seat s r id j v u r.serving at there served (f.holding h e).0)) in
      assumption (
        holding,
        prefix_trans u.seen r.log log f.prefix on,
        all_on r.log log (own_lists u) on f.own,
        f,
      )

  pub draws : (slots id : ℕ) (me : M) → turns ≤ 2 ^ 62 → me.0.ticket ≡ None → me.0.kept ≡ None
      → 0 < me.0.left
      → Allows Rule slots id me 0 (λ n. (n + 1) % 2 ^ 64) (Draws (step slots 0 1 0 none) me)
  draws slots id me small no_ticket no_value some_left s r long at fits =
      let v : V = me.0 in
      let w : V = entering v r.ticket in
      let fit : Fits first turns r.serving r.log s.homes v = r.each_view id v at in
      let some_view : v ≢ spent_view = λ e. absurd (omega (arith, ap (λ (u : V). u.left) e)) in
      let up : (r.ticket + 1) % 2 ^ 64 ≡ r.ticket + 1 = omega (arith, r.bounded) in (
        entering v (get_or s.words 0 0),
        keeps,
        tt,
        rw (r.words, up) (moved s r id v w (r.ticket + 1) r.serving r.log s.homes at
            (grind (arith, r.heard id v at)) (λ k. refl)
            (fits_free r.serving r.log s.homes w no_value
            (of_same v w refl some_view v.origin fit.of) (grind (arith, fit.early, fit.some_own))
            fit.prefix fit.begins fit.own)
            (λ j u _ e. r.each_view j u e)
            (slot_stays r.log s.homes s.views id v w at refl r.slot)),
        refl,
      )

  -- the turn has the value, and with it so many turns, entered and left, and this ticket
  abbrev turning : V → List E → ℕ → ℕ → ℕ → Option ℕ → V
  turning v h left entered found ticket = record (holding v h) {
    left = left;
    entered = entered;
    found = found;
    ticket = ticket;
  }

  -- the seat takes the value that is at home, as its ticket is served
  taken : (s : S) (r : Rule s) (id : ℕ) (v : V) (word left entered found : ℕ) (ticket : Option ℕ)
      → get_elem? s.views id ≡ some v → v ≢ spent_view → v.kept ≡ None → ticket ≡ Some r.serving
      → (r.ticket ≤ word)
      × ((n : ℕ) → is_ticket n v.ticket < is_ticket n ticket → (r.ticket ≤ n) × (n < word))
      × (counts ticket + r.ticket ≡ counts v.ticket + word)
      × (entered + r.ticket ≡ v.entered + word) × (left + word ≤ v.left + r.ticket)
      × (found ≤ word) → Rule record {
        words = word ∷ r.serving ∷ length r.log ∷ [];
        homes = none ∷ [];
        views = set s.views id (turning v r.log left entered found ticket);
      }
  taken s r id v word left entered found ticket at some_view no_value served counted =
      let w : V = turning v r.log left entered found ticket in
      let fit : Fits first turns r.serving r.log s.homes v = r.each_view id v at in
      moved s r id v w word r.serving r.log (none ∷ []) at (grind arith) (λ k. refl)
      (grind (arith, of_same v w refl some_view v.origin fit.of, fit))
      (λ j u _ e.
      let f : Fits first turns r.serving r.log s.homes u = r.each_view j u e in
      let empty : Homes = none ∷ [] in
      let holding : (h : List E) → u.kept ≡ Some h
      → (u.ticket ≡ Some r.serving) × (empty ≡ none ∷ []) × (r.log ≡ with_added h u.added) =
      λ h k. ((f.holding h k).0, refl, (f.holding h k).2) in
      assumption (holding, f)) (inr (id, w, r.log, refl, here_set s.views id v w at, refl))

  -- where the seat's ticket is served and it has no value, the value is at home
  at_home : (s : S) (r : Rule s) (id : ℕ) (v : V) → get_elem? s.views id ≡ some v
      → v.ticket ≡ Some r.serving → v.kept ≡ None → HomeOrOut r.log s.homes s.views
      → IsHome origin stands first r.log s.homes
  at_home s r id v at served no_value (inl home) = home
  at_home s r id v at served no_value (inr out) = let j = out.0 in let u = out.1 in
      let same : u ≡ v = same_view s.views id j v u
      (one_seat s r id j v u r.serving at out.4 served
      ((r.each_view j u out.4).holding out.2 out.5).0) at out.4 in
      absurd (cc (out.5))

  pub looks : (slots id : ℕ) (me : M) (n : ℕ) → me.0.ticket ≡ Some n → me.0.kept ≡ None
      → Allows Rule slots id me 1 (λ k. k) (Looks origin stands (step slots 1 0 0 none) me)
  looks slots id me n ticket no_value s r long at fits =
      let found : ℕ = get_or s.words 1 0 in
      let here : found ≡ r.serving = ap (λ (ws : List ℕ). get_or ws 1 0) r.words in
      let v : V = me.0 in
      let fit : Fits first turns r.serving r.log s.homes v = r.each_view id v at in
      let some_view : v ≢ spent_view = λ e. absurd (cc) in
      dite (ℕ_discrete found n)
      (λ (hit : found ≡ n).
      let served : v.ticket ≡ Some r.serving = ticket ∙ ap Some (sym hit ∙ here) in
      let home = at_home s r id v at served no_value r.slot in
      let mine : v.origin ≡ Some (origin home.0) = grind (arith, fit.of, home.2) in (
        holding v r.log,
        takes 0 (Some home.0),
        ap (λ (hs : Homes). get_elem? hs 0) home.1,
        rw (r.words, home.1) (taken s r id v r.ticket v.left v.entered v.found v.ticket at some_view
            no_value served (omega (arith, r.heard id v at))),
        λ k e. rw (eq-eqb found k (cc)) (home.0, r.log, refl, mine, home.3, fit.prefix),
      ))
      (λ (miss : found ≢ n). (
        v,
        keeps,
        tt,
        rw r.words (reads s r id v v.found v.seen at some_view (r.heard id v at) fit.prefix
            fit.begins),
        λ k e. rw (ne_eqb found k (λ same. miss (cc))) refl,
      ))

  -- the slot is one place
  one_place : (log : List E) (homes : Homes) (views : List V) → HomeOrOut log homes views
      → (x : maybe.Option (Option T)) × (homes ≡ x ∷ [])
  one_place log homes views (inl home) = (some (Some home.0), home.1)
  one_place log homes views (inr out) = (none, out.3)

  pub ends : (slots id : ℕ) (me : M) (x : T) (h : List E) → turns ≤ 2 ^ 62 → me.1 ≡ (0, Some x) ∷ []
      → me.0.kept ≡ Some h → me.0.origin ≡ Some (origin x) → stands x (with_added h me.0.added)
      → Allows Rule slots id me 1 (λ n. (n + 1) % 2 ^ 64) (Ends (step slots 1 1 0 none) me)
  ends slots id me x h small carries value o st s r long at fits =
      let v : V = me.0 in
      let w : V = resting v in
      let fit : Fits first turns r.serving r.log s.homes v = r.each_view id v at in
      let hold = fit.holding h value in
      let mine : origin x ≡ first = (rw o at fit.of).0 in
      let place = one_place r.log s.homes s.views r.slot in
      let up : (r.serving + 1) % 2 ^ 64 ≡ r.serving + 1 = omega (arith, r.bounded, r.waiting) in (
        w,
        gives,
        tt,
        rw (r.words, carries, place.1, up) (moved s r id v w r.ticket (r.serving + 1) r.log
            (some (Some x) ∷ []) at (grind (arith, r.heard id v at, hold.0)) (λ k. refl)
            (fits_free _ r.log _ w refl (of_same v w refl (is_view v (origin x) o) v.origin fit.of)
            (grind (arith, fit.some_own)) fit.prefix fit.begins fit.own)
            (others_fit s r id v (r.serving + 1) r.log (some (Some x) ∷ []) at hold.0
            (prefix_self r.log))
            (inl (x, refl, mine, subst (stands x) (sym hold.2) st))),
        refl,
      )

  adds_one : (slots id : ℕ) (me : M) (h : List E) (e : E) → turns ≤ 2 ^ 62 → me.0.kept ≡ Some h
      → me.0.added ≡ None
      → Allows Rule slots id me 2 (λ n. (n + 1) % 2 ^ 64) (Adds (Some e) (step slots 2 1 0 none) me)
  adds_one slots id me h e small value nothing s r long at fits =
      let v : V = me.0 in
      let w : V = adding v r.log (Some e) in
      let fit : Fits first turns r.serving r.log s.homes v = r.each_view id v at in
      let hold = fit.holding h value in
      let log_is : r.log ≡ h = hold.2 ∙ ap (with_added h) nothing in
      let log : List E = r.log ++ e ∷ [] in
      let some_view : v ≢ spent_view = λ d. absurd (cc) in
      let here : get_or s.words 2 0 ≡ length r.log = ap (λ (ws : List ℕ). get_or ws 2 0) r.words in
      let own_one_more : total (own_lists w) ≡ total (own_lists v) + 1 =
      omega (arith, length-append v.own (mark r.log e ∷ [])) in
      let own : AllStand log (own_lists w) = (
        stand_last r.log e 0 v.own (omega arith) fit.own.0,
        all_on r.log log v.joined (e ∷ [], refl) fit.own.1,
      ) in
      let longer : length log ≡ length r.log + 1 = length-append r.log (e ∷ []) in
      let up : (length r.log + 1) % 2 ^ 64 ≡ length log =
      grind (arith, r.bounded, r.few, one_of pending s.views id v at, hold.0) in (
        w,
        keeps,
        tt,
        rw (r.words, up) (moved s r id v w r.ticket r.serving log s.homes at
            (grind (arith, r.heard id v at, hold.0))
            (λ k. omega (arith, one_more r.log e k, times_last k v.own (mark r.log e)))
            (grind (
              arith,
              of_same v w refl some_view v.origin fit.of,
              prefix_self log,
              prefix_trans v.beginning v.seen log fit.begins
                  (prefix_trans v.seen r.log log fit.prefix (e ∷ [], refl)),
              fit,
            ))
            (others_fit s r id v r.serving log s.homes at hold.0 (e ∷ [], refl))
            (slot_goes_on r.log log s.homes s.views id v w at refl hold.1 r.slot)),
        λ k d. let same : r.log ≡ k = cc in (
          ap (λ (l : List E). (adding v l (Some e), me.1)) same,
          sym (here ∙ ap length same),
          subst (λ (l : List E). AllStand (with_added l (Some e))
              (own_lists (adding v l (Some e)))) same own,
        ),
      )

  pub adds : (slots id : ℕ) (me : M) (h : List E) (named : Option E) (e : E) → named ≡ Some e
      → turns ≤ 2 ^ 62 → me.0.kept ≡ Some h → me.0.added ≡ None
      → Allows Rule slots id me 2 (λ n. (n + 1) % 2 ^ 64) (Adds named (step slots 2 1 0 none) me)
  adds slots id me h named e is small value nothing =
      subst (λ (x : Option E). Allows Rule slots id me 2 (λ n. (n + 1) % 2 ^ 64)
      (Adds x (step slots 2 1 0 none) me)) (sym is) (adds_one slots id me h e small value nothing)

  pub sees : (slots id : ℕ) (me : M) (o : O) → me.0.origin ≡ Some o
      → Allows Rule slots id me 2 (λ k. k) (Sees (step slots 2 0 0 none) me)
  sees slots id me o is s r long at fits =
      let v : V = me.0 in
      let fit : Fits first turns r.serving r.log s.homes v = r.each_view id v at in
      let here : get_or s.words 2 0 ≡ length r.log = rw r.words in (
        seeing v r.log,
        keeps,
        tt,
        rw r.words (reads s r id v v.found r.log at (is_view v o is) (r.heard id v at)
            (prefix_self r.log) (prefix_trans v.beginning v.seen r.log fit.begins fit.prefix)),
        (r.log, refl, sym here, fit.prefix, fit.own, λ h k. (fit.holding h k).2),
      )

  -- the turns of one view are at most all turns
  few_turns : (s : S) (r : Rule s) (id : ℕ) (v : V) → get_elem? s.views id ≡ some v
      → v.left + r.ticket ≤ turns + 1
  few_turns s r id v at = omega (arith, one_of (λ (u : V). u.left) s.views id v at, r.bounded)

  pub learns : (slots id : ℕ) (me : M) (o : O) → me.0.origin ≡ Some o
      → Allows Rule slots id me 0 (λ k. k) (Learns (step slots 0 0 0 none) me)
  learns slots id me o is s r long at fits =
      let v : V = me.0 in
      let fit : Fits first turns r.serving r.log s.homes v = r.each_view id v at in
      let some_view : v ≢ spent_view = is_view v o is in (
        v,
        keeps,
        tt,
        rw r.words (reads s r id v v.found v.seen at some_view (r.heard id v at) fit.prefix
            fit.begins),
        (
          refl,
          grind (
            arith,
            fit.of,
            few_turns s r id v at,
            one_of (λ (u : V). u.entered) s.views id v at,
            r.entered,
          ),
          fit.begins,
        ),
      )

  -- the sum over the views of a seat whose view is cut in two
  split_sum : (f : V → ℕ) (views : List V) (id : ℕ) (v left right : V) → get_elem? views id ≡ some v
      → sum_by f (set views id left ++ right ∷ []) + f v ≡ sum_by f views + (f left + f right)
  split_sum f views id v left right at = omega (
    arith,
    sum_set f views id v left at,
    sum_by-append f (set views id left) (right ∷ []),
    sum_by-cons f right [],
  )

  pub splits : (id : ℕ) (v : V) (n : ℕ) (o : O) → n ≤ v.left → v.origin ≡ Some o
      → Splits Rule id v (giving v n) (given v n)
  splits id v n o few is s r at =
      let left : V = giving v n in
      let right : V = given v n in
      let fit : Fits first turns r.serving r.log s.homes v = r.each_view id v at in
      let sums = λ (f : V → ℕ). split_sum f s.views id v left right at in
      let both = λ (P : V → Type 0) (l : P left) (m : P right) (others : (j : ℕ) (u : V) → j ≢ id
      → get_elem? s.views j ≡ some u → P u) (j : ℕ) (u : V)
      (e : get_elem? (set s.views id left ++ right ∷ []) j ≡ some u).
      ⊎_elim (each_set P s.views id left l others j u) (λ (new : right ≡ u). subst P new m)
      (at_snoc (set s.views id left) right u j e) in
      record {
        ticket = r.ticket;
        serving = r.serving;
        log = r.log;
        words = r.words;
        waiting = omega (arith, sums (λ u. counts u.ticket), r.waiting);
        once = λ k. omega (arith, sums (λ u. is_ticket k u.ticket), r.once k);
        undrawn = λ k l. omega (arith, sums (λ u. is_ticket k u.ticket), r.undrawn k l);
        entered = omega (arith, sums (λ u. u.entered), r.entered);
        heard = both (λ u. u.found ≤ r.ticket) (r.heard id v at) (r.heard id v at)
            (λ j u _ e. r.heard j u e);
        once_each = λ k. omega (arith, sums (λ u. times k (own_lists u)), r.once_each k);
        few = omega (arith, sums pending, r.few);
        bounded = omega (arith, sums (λ u. u.left), r.bounded);
        each_view = both (Fits first turns r.serving r.log s.homes)
            (assumption (of_same v left refl (is_view v o is) v.origin fit.of, fit))
            (fits_free r.serving r.log s.homes right refl
            (of_same v right refl (is_view v o is) v.origin fit.of) (omega arith) fit.prefix
            fit.begins (tt, tt))
            (λ j u _ e. r.each_view j u e);
        slot = longer_views r.log s.homes (set s.views id left) right
            (slot_stays r.log s.homes s.views id v left at refl r.slot);
      }

  pub stubs : (id : ℕ) (v : V) (o : O) → v.origin ≡ Some o → Splits Rule id v v (given v 0)
  stubs id v o is =
      let e : v.left - 0 ≡ v.left = omega arith in
      rw e at (splits id v 0 o (omega arith) is)

  -- the sum over the views where one seat takes in another
  join_sum : (f : V → ℕ) (views : List V) (id other : ℕ) (v w both_views : V)
      → get_elem? views id ≡ some v → get_elem? (set views id both_views) other ≡ some w
      → (sum_by f (set (set views id both_views) other spent_view) + f v) + f w
      ≡ (sum_by f views + f both_views) + f spent_view
  join_sum f views id other v w both_views at there =
      omega (
        arith,
        sum_set f views id v both_views at,
        sum_set f (set views id both_views) other w spent_view there,
      )

  pub joins : (id other : ℕ) (v w u : V) (o : O) → v.origin ≡ Some o → v.ticket ≡ None
      → w.ticket ≡ None → v.kept ≡ None → w.kept ≡ None
      → u.origin ≡ v.origin → u.turns ≡ v.turns → u.ticket ≡ None → u.kept ≡ None
      → u.added ≡ v.added → u.left ≡ v.left + w.left → u.entered ≡ v.entered + w.entered
      → u.found ≡ v.found
      → ((l : List E) → IsPrefix v.seen l → IsPrefix w.seen l → IsPrefix u.seen l)
      → ((l : List E) → IsPrefix v.seen l → IsPrefix w.seen l → IsPrefix v.beginning v.seen
      → IsPrefix u.beginning u.seen)
      → ((l : List E) → AllStand l (own_lists v) → AllStand l (own_lists w)
      → AllStand l (own_lists u))
      → ((k : ℕ) → times k (own_lists u) ≡ times k (own_lists v) + times k (own_lists w))
      → total (own_lists u) ≤ total (own_lists v) + total (own_lists w)
      → Joins Rule id v other w u spent_view
  joins id other v w u o is v_ticket w_ticket v_value w_value u_origin u_turns u_ticket u_value
      u_added u_left u_entered u_found u_seen u_begins u_own u_times u_total s r at apart there =
      let fit : Fits first turns r.serving r.log s.homes v = r.each_view id v at in
      let other_there : get_elem? s.views other ≡ some w =
      grind (arith, at_set s.views id other u w there) in
      let other_fit : Fits first turns r.serving r.log s.homes w =
      r.each_view other w other_there in
      let sums = λ (f : V → ℕ). join_sum f s.views id other v w u at there in
      let tickets = λ (k : ℕ). sums (λ x. is_ticket k x.ticket) in
      let each = λ (P : V → Type 0) (spent : P spent_view) (mine : P u) (others : (j : ℕ) (x : V)
      → get_elem? s.views j ≡ some x → P x).
      each_set P (set s.views id u) other spent_view spent
      (λ j x _. each_set P s.views id u mine (λ i y _. others i y) j x) in
      record {
        ticket = r.ticket;
        serving = r.serving;
        log = r.log;
        words = r.words;
        waiting = grind (arith, sums (λ x. counts x.ticket), r.waiting);
        once = λ k. grind (arith, tickets k, r.once k);
        undrawn = λ k l. grind (arith, tickets k, r.undrawn k l);
        entered = omega (arith, sums (λ x. x.entered), r.entered);
        heard = each (λ x. x.found ≤ r.ticket) (omega arith) (omega (arith, r.heard id v at))
            r.heard;
        once_each = λ k. omega (arith, sums (λ x. times k (own_lists x)), r.once_each k, u_times k);
        few = grind (arith, sums pending, r.few);
        bounded = omega (arith, sums (λ x. x.left), r.bounded);
        each_view = each (Fits first turns r.serving r.log s.homes)
            (fits_free _ r.log _ spent_view refl refl (omega arith) (r.log, refl) ([], refl)
            (tt, tt))
            (fits_free r.serving r.log s.homes u u_value
            (of_same v u u_turns (is_view v o is) u.origin (rw u_origin fit.of))
            (grind (arith, fit.early, fit.some_own, other_fit.some_own))
            (u_seen r.log fit.prefix other_fit.prefix)
            (u_begins r.log fit.prefix other_fit.prefix fit.begins)
            (u_own r.log fit.own other_fit.own))
            r.each_view;
        slot = slot_stays r.log s.homes (set s.views id u) other w spent_view there (sym w_value)
            (slot_stays r.log s.homes s.views id v u at (u_value ∙ sym v_value) r.slot);
      }

  -- where all turns were entered by one seat, which has no ticket, no view has one
  none_drawn : (s : S) (r : Rule s) (id : ℕ) (v : V) → get_elem? s.views id ≡ some v
      → v.ticket ≡ None → v.entered ≡ r.ticket → (j : ℕ) (u : V) → get_elem? s.views j ≡ some u
      → counts u.ticket ≡ 0
  none_drawn s r id v at no_ticket all j u there = grind (
    arith,
    same_view s.views id j v u,
    two_of (λ (x : V). x.entered) s.views j id u v,
    r.entered,
    (r.each_view j u there).counted,
  )

  -- then the value is at home
  home_at_end : (s : S) (r : Rule s) → ((j : ℕ) (u : V) → get_elem? s.views j ≡ some u
      → counts u.ticket ≡ 0) → HomeOrOut r.log s.homes s.views
      → IsHome origin stands first r.log s.homes
  home_at_end s r none_of (inl home) = home
  home_at_end s r none_of (inr out) =
      let held = (r.each_view out.0 out.1 out.4).holding out.2 out.5 in
      absurd (cc (none_of out.0 out.1 out.4, held.0))

  -- and its own lists make up the history
  all_mine : (s : S) (r : Rule s) (id : ℕ) (v : V) → get_elem? s.views id ≡ some v
      → v.entered ≡ r.ticket → MakeUp r.log (own_lists v)
  all_mine s r id v at all = record {
    stand = (r.each_view id v at).own;
    once = λ k. sym (sum_only (λ (u : V). times k (own_lists u)) s.views id v at (λ j u other there.
        omega (
          arith,
          two_of (λ (x : V). x.entered) s.views j id u v other there at,
          r.entered,
          (r.each_view j u there).some_own,
          times_few k (own_lists u),
        ))) ∙ r.once_each k;
  }

  pub closes : (slots id : ℕ) (me : M) (o : O) (old new : ℕ) → me.0.origin ≡ Some o
      → me.0.ticket ≡ None → me.0.kept ≡ None → 0 < me.0.left → me.0.entered ≡ old → new ≡ old + 1
      → Allows Rule slots id me 0 (λ k. either (k == old) new k)
      (Closes origin stands (step slots 0 old new none) me)
  closes slots id me o old new is no_ticket no_value some_left all up s r long at fits =
      let found : ℕ = get_or s.words 0 0 in
      let here : found ≡ r.ticket = ap (λ (ws : List ℕ). get_or ws 0 0) r.words in
      let v : V = me.0 in
      let fit : Fits first turns r.serving r.log s.homes v = r.each_view id v at in
      let some_view : v ≢ spent_view = is_view v o is in
      dite (ℕ_discrete found old)
      (λ (hit : found ≡ old).
      let none_of = none_drawn s r id v at no_ticket (all ∙ sym hit ∙ here) in
      let still : r.serving ≡ r.ticket = omega (
        arith,
        r.waiting,
        sum_none (λ (x : V). counts x.ticket) s.views none_of,
      ) in
      let home = home_at_end s r none_of r.slot in
      let mine : v.origin ≡ Some (origin home.0) = grind (arith, fit.of, home.2) in
      let next : either (r.ticket == old) new r.ticket ≡ r.ticket + 1 =
      rw (eq-eqb r.ticket old (sym here ∙ hit)) (omega arith) in (
        holding (entering (finding v found) found) r.log,
        takes 0 (Some home.0),
        ap (λ (hs : Homes). get_elem? hs 0) home.1,
        rw (r.words, home.1, next) (taken s r id v (r.ticket + 1) (v.left - 1) (v.entered + 1)
            r.ticket (Some r.ticket) at some_view no_value (ap Some (sym still))
            (grind arith)),
        rw (eq-eqb found old hit) (
          (home.0, r.log, refl, mine, home.3, fit.prefix),
          all_mine s r id v at (all ∙ sym hit ∙ here),
        ),
      ))
      (λ (miss : found ≢ old).
      let next : either (r.ticket == old) new r.ticket ≡ r.ticket =
      rw (ne_eqb r.ticket old (λ e. miss (here ∙ e))) in
      let few = one_of (λ (u : V). u.entered) s.views id v at in (
        finding v found,
        keeps,
        tt,
        rw (r.words, next) (reads s r id v r.ticket v.seen at some_view (omega arith) fit.prefix
            fit.begins),
        rw (ne_eqb found old miss) (
          refl,
          omega arith,
          grind (arith, fit.of, few_turns s r id v at),
        ),
      ))
