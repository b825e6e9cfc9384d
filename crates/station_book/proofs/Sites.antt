-- A site's forward instance.
use Rattle.std.proofs.Common.{◌≡◌, ℕ, ◌+◌, ◌≤◌, Bool, true, false, cond, Some, List, [], ◌∷◌}
use Rattle.std.proofs.Common.{zero, suc, slice_get, refl, ap, ◌∙◌, sym, arith}
use Rattle.std.proofs.lemmas.List.Sums.{sum_by-cons}
use Rattle.std.specs.List.{count_by}
use Rattle.station_config.specs.Validity.{is_forward}
use Rattle.station_config.specs.declared.instance.Instance.{Instance}
use Rattle.station_config.specs.declared.service.Service.{Service}
use Rattle.station_config.specs.declared.service.Service.TheVariants.{Raf, Rcf, Cltu}
use Rattle.station_book.specs.Origin.{kind_of, kinds_of}
use Rattle.station_book.specs.History.{is_forward as is_kind}
use Rattle.station_book.specs.Doors.{HasOneForward}

abbrev forwards : List Instance → ℕ
forwards instances = count_by (λ instance. is_forward instance.service) instances

same : (s : Service) → is_kind (Some (kind_of s)) ≡ is_forward s
same (Raf mode size latency) = refl
same (Rcf mode size latency channels) = refl
same (Cltu room longest) = refl

counts : (x : Instance) (xs : List Instance)
    → forwards (x ∷ xs) ≡ cond (is_forward x.service) 1 0 + forwards xs
counts x xs = sum_by-cons (λ (instance : Instance). cond (is_forward instance.service) 1 0) x xs

-- what is left where there are none, and where there is one at most
none : (b : Bool) (m n : ℕ) → m ≡ cond b 1 0 + n → m ≡ 0 → (b ≡ false) × (n ≡ 0)
none true m n is e = absurd (omega (arith, is, e))
none false m n is e = (refl, omega (arith, is, e))

few : (b : Bool) (m n : ℕ) → m ≡ cond b 1 0 + n → m ≤ 1 → n ≤ 1
few true m n is e = omega (arith, is, e)
few false m n is e = omega (arith, is, e)

no_other : (b : Bool) (m n : ℕ) → m ≡ cond b 1 0 + n → m ≤ 1 → b ≡ true → n ≡ 0
no_other true m n is e first = omega (arith, is, e)
no_other false m n is e first = absurd (cc first)

none_left : (instances : List Instance) → forwards instances ≡ 0 → (i : ℕ)
    → is_kind (slice_get (kinds_of instances) i) ≡ false
none_left [] e i = refl
none_left (x ∷ xs) e zero =
    same x.service ∙ (none (is_forward x.service) _ _ (counts x xs) e).0
none_left (x ∷ xs) e (suc i) =
    none_left xs (none (is_forward x.service) _ _ (counts x xs) e).1 i

not_both : (x : Instance) (xs : List Instance) (i : ℕ) → forwards (x ∷ xs) ≤ 1
    → is_kind (Some (kind_of x.service)) ≡ true → is_kind (slice_get (kinds_of xs) i) ≡ true → ⊥
not_both x xs i e p q =
    let first : is_forward x.service ≡ true = sym (same x.service) ∙ p in
    let others = none_left xs (no_other (is_forward x.service) _ _ (counts x xs) e first) i in
    cc (others, q)

pub one_forward : (instances : List Instance) → forwards instances ≤ 1
    → HasOneForward (kinds_of instances)
one_forward [] e i j p q = absurd (cc p)
one_forward (x ∷ xs) e zero zero p q = refl
one_forward (x ∷ xs) e zero (suc j) p q = absurd (not_both x xs j e p q)
one_forward (x ∷ xs) e (suc i) zero p q = absurd (not_both x xs i e q p)
one_forward (x ∷ xs) e (suc i) (suc j) p q =
    let left = few (is_forward x.service) _ _ (counts x xs) e in
    ap suc (one_forward xs left i j p q)
