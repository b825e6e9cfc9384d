-- The events of a history of one kind, where one list alone has such.
use Rattle.std.proofs.Common.{◌≡◌, ℕ, zero, suc, ◌+◌, ◌<◌, ◌≤◌, Bool, true, false, ◌||◌, cond, List}
use Rattle.std.proofs.Common.{[]}
use Rattle.std.proofs.Common.{◌∷◌, ◌++◌, ◌⊎◌, inl, inr, map, filter, length, slice_get, Some, refl}
use Rattle.std.proofs.Common.{sym}
use Rattle.std.proofs.Common.{ap, ◌∙◌, le_refl, arith, sum_by}
use Rattle.std.proofs.lemmas.List.Sums.{sum_by-cons, length-filter}
use Rattle.std.specs.List.{list_any}
use Rattle.turn_lock.specs.declared.view.Mark.{Mark}
use Rattle.turn_lock.specs.Own.{StandFrom, AllStand, MakeUp, weight_of}

abbrev one_if : Bool → ℕ
one_if b = cond b 1 0

module _ {E : Type 0} where
  -- the events of own marks
  abbrev pub events : List (Mark E) → List E
  events ms = map (λ m. m.event) ms

  -- ---- some of a list, in its order

  abbrev pub Among : List E → List E → Type 0
  Among es [] = es ≡ []
  Among es (x ∷ h) = Among es h ⊎ ((rest : List E) × (es ≡ x ∷ rest) × Among rest h)

  -- the marks stand in a list that begins at the place k
  abbrev At : ℕ → List E → ℕ → List (Mark E) → Type 0
  At k rest n [] = Unit {0}
  At k rest n (m ∷ ms) = (i : ℕ) × (n ≤ m.place) × (m.place ≡ k + i)
      × (slice_get rest i ≡ Some m.event) × At k rest (m.place + 1) ms

  at_start : (h : List E) (n : ℕ) (ms : List (Mark E)) → StandFrom h n ms → At 0 h n ms
  at_start h n [] s = tt
  at_start h n (m ∷ ms) s =
      (m.place, s.0, omega arith, s.1, at_start h (m.place + 1) ms s.2)

  behind : (k : ℕ) (x : E) (rest : List E) (n : ℕ) (ms : List (Mark E)) → k < n
      → At k (x ∷ rest) n ms → At (k + 1) rest n ms
  behind k x rest n [] less s = tt
  behind k x rest n (m ∷ ms) less s =
      by s.0 s.1 s.2 s.3
      (behind k x rest (m.place + 1) ms (let l = s.1 in omega (arith, less, l)) s.4)
    where
      by : (i : ℕ) → n ≤ m.place → m.place ≡ k + i → slice_get (x ∷ rest) i ≡ Some m.event
          → At (k + 1) rest (m.place + 1) ms → At (k + 1) rest n (m ∷ ms)
      by zero l at is more = absurd (omega (arith, less, l, at))
      by (suc i) l at is more = (i, l, omega (arith, at), is, more)

  among : (rest : List E) (k n : ℕ) (ms : List (Mark E)) → k ≤ n → At k rest n ms
      → Among (events ms) rest
  among [] k n [] le s = refl
  among [] k n (m ∷ ms) le s = absurd (cc (s.3))
  among (x ∷ rest) k n [] le s = inl (among rest (k + 1) (n + 1) [] (omega (arith, le)) tt)
  among (x ∷ rest) k n (m ∷ ms) le s = by s.0 s.1 s.2 s.3 s.4 (among rest)
    where
      by : (i : ℕ) → n ≤ m.place → m.place ≡ k + i → slice_get (x ∷ rest) i ≡ Some m.event
          → At k (x ∷ rest) (m.place + 1) ms
          → ((l j : ℕ) (ns : List (Mark E)) → l ≤ j → At l rest j ns → Among (events ns) rest)
          → Among (events (m ∷ ms)) (x ∷ rest)
      by zero l at is more goes =
          let same : x ≡ m.event = cc is in
          inr (
            events ms,
            ap (λ (y : E). y ∷ events ms) (sym same),
            goes (k + 1) (m.place + 1) ms (omega (arith, at))
                (behind k x rest (m.place + 1) ms (omega (arith, at)) more),
          )
      by (suc i) l at is more goes =
          inl
          (goes (k + 1) m.place (m ∷ ms) (omega (arith, at)) (
            i,
            le_refl m.place,
            omega (arith, at),
            is,
            behind k x rest (m.place + 1) ms (omega (arith, at)) more,
          ))

  pub stands_among : (h : List E) (ms : List (Mark E)) → StandFrom h 0 ms → Among (events ms) h
  stands_among h ms s = among h 0 0 ms (le_refl 0) (at_start h 0 ms s)

  module _ (p : E → Bool) where
    cons_length : (b : Bool) (x : E) (xs : List E)
        → length (cond b (x ∷ xs) xs) ≡ cond b 1 0 + length xs
    cons_length true x xs = omega arith
    cons_length false x xs = omega arith

    abbrev size : List E → ℕ
    size es = length (filter p es)

    -- a part has no more of a kind than the whole
    fewer : (h es : List E) → Among es h → size es ≤ size h
    fewer [] es a = let none : size es ≡ 0 = ap size a in omega (arith, none)
    fewer (x ∷ h) es (inl a) =
        let rest = fewer h es a in
        let one = cons_length (p x) x (filter p h) in
        omega (arith, rest, one)
    fewer (x ∷ h) es (inr a) =
        let rest = fewer h a.0 a.2 in
        let here : size es ≡ size (x ∷ a.0) = ap size a.1 in
        let one = cons_length (p x) x (filter p h) in
        let other = cons_length (p x) x (filter p a.0) in
        omega (arith, rest, here, one, other)

    -- a part that has as many has the same
    pub same : (h es : List E) → Among es h → size es ≡ size h → filter p es ≡ filter p h
    same [] es a many = ap (filter p) a
    same (x ∷ h) es (inl a) many = by (p x) refl (same h es a)
      where
        by : (b : Bool) → p x ≡ b → (size es ≡ size h → filter p es ≡ filter p h)
            → filter p es ≡ filter p (x ∷ h)
        by true is goes =
            let whole : size (x ∷ h) ≡ suc (size h) =
            ap (λ (b : Bool). length (cond b (x ∷ filter p h) (filter p h))) is in
            let few = fewer h es a in
            absurd (omega (arith, whole, few, many))
        by false is goes =
            let whole : filter p (x ∷ h) ≡ filter p h =
            ap (λ (b : Bool). cond b (x ∷ filter p h) (filter p h)) is in
            goes (many ∙ ap length whole) ∙ sym whole
    same (x ∷ h) es (inr a) many =
        let here : size es ≡ size (x ∷ a.0) = ap size a.1 in
        let one = cons_length (p x) x (filter p h) in
        let other = cons_length (p x) x (filter p a.0) in
        let rest = same h a.0 a.2 (omega (arith, here, many, one, other)) in
        ap (filter p) a.1 ∙ ap (λ (xs : List E). cond (p x) (x ∷ xs) xs) rest

    -- ---- lists that have none of a kind

    abbrev pub Without : List (List (Mark E)) → Type 0
    Without [] = Unit {0}
    Without (ms ∷ lists) = (list_any p (events ms) ≡ false) × Without lists

    abbrev weight : E → ℕ
    weight e = cond (p e) 1 0

    or_parts : (a b : Bool) → (a || b) ≡ false → (a ≡ false) × (b ≡ false)
    or_parts true b e = absurd (cc e)
    or_parts false b e = (refl, e)

    no_weight : (ms : List (Mark E)) → list_any p (events ms) ≡ false
        → sum_by (λ m. weight m.event) ms ≡ 0
    no_weight [] none = refl
    no_weight (m ∷ ms) none =
        let parts = or_parts (p m.event) (list_any p (events ms)) none in
        let here : weight m.event ≡ 0 = ap (λ (b : Bool). cond b 1 0) parts.0 in
        let rest = no_weight ms parts.1 in
        let cons = sum_by-cons (λ (m : Mark E). weight m.event) m ms in
        omega (arith, here, rest, cons)

    events_weigh : (ms : List (Mark E))
        → sum_by (λ m. weight m.event) ms ≡ size (events ms)
    events_weigh [] = refl
    events_weigh (m ∷ ms) =
        let rest = events_weigh ms in
        let cons = sum_by-cons (λ (m : Mark E). weight m.event) m ms in
        let one = cons_length (p m.event) m.event (filter p (events ms)) in
        omega (arith, rest, cons, one)

    none_weigh : (lists : List (List (Mark E))) → Without lists → weight_of weight lists ≡ 0
    none_weigh [] none = refl
    none_weigh (ms ∷ lists) none =
        let here = no_weight ms none.0 in
        let rest = none_weigh lists none.1 in
        omega (arith, here, rest)

    only_weighs : (front : List (List (Mark E))) (ms : List (Mark E)) (back : List (List (Mark E)))
        → Without front → Without back
        → weight_of weight (front ++ ms ∷ back) ≡ size (events ms)
    only_weighs [] ms back before later =
        let rest = none_weigh back later in
        let here = events_weigh ms in
        omega (arith, here, rest)
    only_weighs (other ∷ front) ms back before later =
        let here = no_weight other before.0 in
        let rest = only_weighs front ms back before.1 later in
        omega (arith, here, rest)

  pub stands_in : (h : List E) (front : List (List (Mark E))) (ms : List (Mark E))
      (back : List (List (Mark E))) → AllStand h (front ++ ms ∷ back) → StandFrom h 0 ms
  stands_in h [] ms back all = all.0
  stands_in h (other ∷ front) ms back all = stands_in h front ms back all.1

  -- the events of a kind that one list alone has are its own, in its order
  pub only_there : (p : E → Bool) (h : List E) (front : List (List (Mark E))) (ms : List (Mark E))
      (back : List (List (Mark E)))
      → ((f : E → ℕ) (h : List E) (lists : List (List (Mark E))) → MakeUp h lists
      → weight_of f lists ≡ sum_by f h)
      → MakeUp h (front ++ ms ∷ back) → Without p front → Without p back
      → filter p h ≡ filter p (events ms)
  only_there p h front ms back weighs made before later =
      let all : weight_of (weight p) (front ++ ms ∷ back) ≡ sum_by (weight p) h =
      weighs (weight p) h (front ++ ms ∷ back) made in
      let own = only_weighs p front ms back before later in
      let counted : size p h ≡ sum_by (weight p) h = length-filter p h in
      sym (same p h (events ms) (stands_among h ms (stands_in h front ms back made.stand))
      (omega (arith, all, own, counted)))

  -- ---- what holds of all that the lists have

  pub none_in : (p : E → Bool) (h : List E) (lists : List (List (Mark E)))
      → ((f : E → ℕ) (h : List E) (lists : List (List (Mark E))) → MakeUp h lists
      → weight_of f lists ≡ sum_by f h)
      → MakeUp h lists → Without p lists → list_any p h ≡ false
  none_in p h lists weighs made none =
      let all : weight_of (weight p) lists ≡ sum_by (weight p) h = weighs (weight p) h lists made in
      let zero = none_weigh p lists none in
      light h (omega (arith, all, zero))
    where
      or_none : (b c : Bool) → b ≡ false → c ≡ false → (b || c) ≡ false
      or_none b c e f = grind arith

      light : (h : List E) → sum_by (weight p) h ≡ 0 → list_any p h ≡ false
      light [] none = refl
      light (x ∷ h) none =
          let cons = sum_by-cons (weight p) x h in
          or_none (p x) (list_any p h) (by (p x) (omega (arith, cons, none)))
          (light h (omega (arith, cons, none)))
        where
          by : (b : Bool) → one_if b ≡ 0 → b ≡ false
          by true e = absurd (omega (arith, e))
          by false e = refl
