-- What own events weigh that make up a history.
use Rattle.std.proofs.Common.{◌≡◌, ℕ, zero, suc, ◌+◌, ◌*◌, ◌<◌, List, [], ◌∷◌, slice_get, Some}
use Rattle.std.proofs.Common.{refl, ap, sym, ◌∙◌, arith}
use Rattle.std.proofs.Math.Nat.{mul-one, mul-zero, mul-add, zero-add}
use Rattle.std.specs.List.{sum_by}
use Rattle.std.proofs.lemmas.List.Sums.{sum_by-cons}
use Rattle.turn_lock.specs.declared.view.Mark.{Mark}
use Rattle.turn_lock.specs.Own.{counts, is_place, times_in, times, weight_of, StandFrom, AllStand}
use Rattle.turn_lock.specs.Own.{MakeUp}
use Rattle.turn_lock.proofs.Owned.{not_place, has_place}

module _ {E : Type 0} (f : E → ℕ) where
  -- the weights of the events from the place n on, each as often as c says of its place
  abbrev pub along : ℕ → List E → (ℕ → ℕ) → ℕ
  along n [] c = 0
  along n (x ∷ h) c = f x * c n + along (n + 1) h c

  along_none : (n : ℕ) (h : List E) → along n h (λ k. 0) ≡ 0
  along_none n [] = refl
  along_none n (x ∷ h) = omega (arith, mul-zero (f x), along_none (n + 1) h)

  along_both : (n : ℕ) (h : List E) (a b : ℕ → ℕ)
      → along n h (λ k. a k + b k) ≡ along n h a + along n h b
  along_both n [] a b = omega arith
  along_both n (x ∷ h) a b = omega (arith, mul-add (f x) (a n) (b n), along_both (n + 1) h a b)

  -- once each
  along_once : (n : ℕ) (h : List E) (c : ℕ → ℕ) → ((k : ℕ) → c (n + k) ≡ counts (slice_get h k))
      → along n h c ≡ sum_by f h
  along_once n [] c once = refl
  along_once n (x ∷ h) c once =
      let here : c n ≡ 1 = ap c (omega arith) ∙ once 0 in
      let rest = along_once (n + 1) h c (λ k. ap c (omega arith) ∙ once (suc k)) in
      omega (arith, ap (λ k. f x * k) here, mul-one (f x), rest, sum_by-cons f x h)

  -- an event at an earlier place
  along_past : (n : ℕ) (h : List E) (m : Mark E) → m.place < n → along n h (λ k. is_place k m) ≡ 0
  along_past n [] m past = refl
  along_past n (x ∷ h) m past = omega (
    arith,
    ap (λ k. f x * k) (not_place n m (λ e. omega arith)),
    mul-zero (f x),
    along_past (n + 1) h m (omega arith),
  )

  -- an event weighs what the history has at its place
  along_one : (n i : ℕ) (h : List E) (m : Mark E) → m.place ≡ n + i → slice_get h i ≡ Some m.event
      → along n h (λ k. is_place k m) ≡ f m.event
  along_one n i [] m at is = absurd (cc is)
  along_one n zero (x ∷ h) m at is =
      let same : x ≡ m.event = cc is in
      omega (
        arith,
        ap (λ k. f x * k) (has_place n m (omega (arith, at))),
        mul-one (f x),
        along_past (n + 1) h m (omega (arith, at)),
        ap f same,
      )
  along_one n (suc i) (x ∷ h) m at is =
      omega (
        arith,
        ap (λ k. f x * k) (not_place n m (λ e. omega (arith, at))),
        mul-zero (f x),
        along_one (n + 1) i h m (omega (arith, at)) is,
      )

  along_list : (h : List E) (n : ℕ) (ms : List (Mark E)) → StandFrom h n ms
      → along 0 h (λ k. times_in k ms) ≡ sum_by (λ m. f m.event) ms
  along_list h n [] s = along_none 0 h
  along_list h n (m ∷ ms) s =
      omega (
        arith,
        along_both 0 h (λ k. is_place k m) (λ k. times_in k ms),
        along_one 0 m.place h m (sym (zero-add m.place)) s.1,
        along_list h (m.place + 1) ms s.2,
        sum_by-cons (λ (x : Mark E). f x.event) m ms,
      )

  along_lists : (h : List E) (lists : List (List (Mark E))) → AllStand h lists
      → along 0 h (λ k. times k lists) ≡ weight_of f lists
  along_lists h [] s = along_none 0 h
  along_lists h (ms ∷ lists) s = omega (
    arith,
    along_both 0 h (λ k. times_in k ms) (λ k. times k lists),
    along_list h 0 ms s.0,
    along_lists h lists s.1,
  )

  -- lists that make up a history weigh as much, however events are weighed
  pub weight_of-made_up : (h : List E) (lists : List (List (Mark E))) → MakeUp h lists
      → weight_of f lists ≡ sum_by f h
  weight_of-made_up h lists made = sym (along_lists h lists made.stand)
      ∙ along_once 0 h (λ k. times k lists) (λ k. ap (λ n. times n lists) (zero-add k)
      ∙ made.once k)
