-- Own events, while the history grows and lists are put beside each other.
use Rattle.std.proofs.Common.{◌≡◌, ◌≢◌, ◌==◌, ℕ, zero, suc, ◌+◌, ◌<◌, ◌≤◌, Bool, true, false, List}
use Rattle.std.proofs.Common.{[], ◌∷◌, ◌++◌, length, slice_get, Some, if◌then◌else◌, refl, ap, sym}
use Rattle.std.proofs.Common.{◌∙◌, arith, eq-eqb, ne_eqb}
use mathlib.Core.List.{IsPrefix}
use mathlib.Core.Logic.{dite}
use native.Mathlib.Decide.{ℕ_discrete}
use Rattle.turn_lock.specs.declared.view.Mark.{Mark}
use Rattle.turn_lock.specs.Own.{counts, mark, is_place, times_in, times, total, StandFrom, AllStand}

module _ {E : Type 0} where
  get_on : (h l : List E) (k : ℕ) (x : E) → IsPrefix h l → slice_get h k ≡ Some x
      → slice_get l k ≡ Some x
  get_on [] l k x p e = absurd (cc e)
  get_on (y ∷ h) [] k x p e = absurd (cc (p.1))
  get_on (y ∷ h) (z ∷ l) zero x p e = cc (p.1, e)
  get_on (y ∷ h) (z ∷ l) (suc k) x p e = get_on h l k x (p.0, cc (p.1)) e

  get_below : (h : List E) (k : ℕ) (x : E) → slice_get h k ≡ Some x → k < length h
  get_below [] k x e = absurd (cc e)
  get_below (y ∷ h) zero x e = omega arith
  get_below (y ∷ h) (suc k) x e = omega (arith, get_below h k x e)

  get_last : (h : List E) (e : E) → slice_get (h ++ e ∷ []) (length h) ≡ Some e
  get_last [] e = refl
  get_last (x ∷ h) e = get_last h e

  pub not_place : (k : ℕ) (m : Mark E) → m.place ≢ k → is_place k m ≡ 0
  not_place k m other = ap (λ (b : Bool). if b then 1 else 0) (ne_eqb m.place k other)

  pub has_place : (k : ℕ) (m : Mark E) → m.place ≡ k → is_place k m ≡ 1
  has_place k m same = ap (λ (b : Bool). if b then 1 else 0) (eq-eqb m.place k same)

  shifted : (h : List E) (x e : E) (k : ℕ) → is_place (suc k) (mark (x ∷ h) e)
      ≡ is_place k (mark h e)
  shifted h x e k = dite (ℕ_discrete (length h) k)
      (λ (same : length h ≡ k). has_place (suc k) (mark (x ∷ h) e) (ap suc same)
      ∙ sym (has_place k (mark h e) same))
      (λ (other : length h ≢ k). not_place (suc k) (mark (x ∷ h) e) (λ d. other (omega arith))
      ∙ sym (not_place k (mark h e) other))

  -- one place more than before
  pub one_more : (h : List E) (e : E) (k : ℕ)
      → counts (slice_get (h ++ e ∷ []) k) ≡ counts (slice_get h k) + is_place k (mark h e)
  one_more [] e zero = refl
  one_more [] e (suc k) = omega (arith, not_place (suc k) (mark [] e) (λ d. omega arith))
  one_more (x ∷ h) e zero = omega (arith, not_place 0 (mark (x ∷ h) e) (λ d. omega arith))
  one_more (x ∷ h) e (suc k) = omega (arith, one_more h e k, shifted h x e k)

  stand_on : (h l : List E) (n : ℕ) (ms : List (Mark E)) → IsPrefix h l → StandFrom h n ms
      → StandFrom l n ms
  stand_on h l n [] p s = tt
  stand_on h l n (m ∷ ms) p s = (
    s.0,
    get_on h l m.place m.event p s.1,
    stand_on h l (m.place + 1) ms p s.2,
  )

  pub all_on : (h l : List E) (lists : List (List (Mark E))) → IsPrefix h l → AllStand h lists
      → AllStand l lists
  all_on h l [] p s = tt
  all_on h l (ms ∷ lists) p s = (stand_on h l 0 ms p s.0, all_on h l lists p s.1)

  pub stand_last : (h : List E) (e : E) (n : ℕ) (ms : List (Mark E)) → n ≤ length h
      → StandFrom h n ms → StandFrom (h ++ e ∷ []) n (ms ++ mark h e ∷ [])
  stand_last h e n [] l s = (l, get_last h e, tt)
  stand_last h e n (m ∷ ms) l s = (
    s.0,
    get_on h (h ++ e ∷ []) m.place m.event (e ∷ [], refl) s.1,
    stand_last h e (m.place + 1) ms (omega (arith, get_below h m.place m.event s.1)) s.2,
  )

  pub all_beside : (h : List E) (xs ys : List (List (Mark E))) → AllStand h xs → AllStand h ys
      → AllStand h (xs ++ ys)
  all_beside h [] ys s t = t
  all_beside h (x ∷ xs) ys s t = (s.0, all_beside h xs ys s.1 t)

  pub all_apart : (h : List E) (xs ys : List (List (Mark E))) → AllStand h (xs ++ ys)
      → AllStand h xs × AllStand h ys
  all_apart h [] ys s = (tt, s)
  all_apart h (x ∷ xs) ys s = let rest = all_apart h xs ys s.1 in ((s.0, rest.0), rest.1)

  pub times_last : (k : ℕ) (ms : List (Mark E)) (m : Mark E)
      → times_in k (ms ++ m ∷ []) ≡ times_in k ms + is_place k m
  times_last k [] m = omega arith
  times_last k (x ∷ ms) m = omega (arith, times_last k ms m)

  pub times_beside : (k : ℕ) (xs ys : List (List (Mark E)))
      → times k (xs ++ ys) ≡ times k xs + times k ys
  times_beside k [] ys = omega arith
  times_beside k (x ∷ xs) ys = omega (arith, times_beside k xs ys)

  pub total_beside : (xs ys : List (List (Mark E))) → total (xs ++ ys) ≡ total xs + total ys
  total_beside [] ys = omega arith
  total_beside (x ∷ xs) ys = omega (arith, total_beside xs ys)

  place_few : (k : ℕ) (m : Mark E) → is_place k m ≤ 1
  place_few k m = elim (m.place == k) as (λ (b : Bool). (if b then 1 else 0) ≤ 1)
      [ true ↦ omega arith | false ↦ omega arith ]

  times_in_few : (k : ℕ) (ms : List (Mark E)) → times_in k ms ≤ length ms
  times_in_few k [] = omega arith
  times_in_few k (m ∷ ms) = omega (arith, place_few k m, times_in_few k ms)

  pub times_few : (k : ℕ) (lists : List (List (Mark E))) → times k lists ≤ total lists
  times_few k [] = omega arith
  times_few k (ms ∷ lists) = omega (arith, times_in_few k ms, times_few k lists)
