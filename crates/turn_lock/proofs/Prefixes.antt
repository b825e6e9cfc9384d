-- Lists that begin one history.
use Rattle.std.proofs.Common.{◌≡◌, ◌≤◌, Bool, true, false, List, [], ◌∷◌, ◌++◌, length}
use Rattle.std.proofs.Common.{if◌then◌else◌, nat_lt, refl, ap, sym, ◌∙◌, append_assoc, arith}
use Rattle.std.proofs.Common.{ltb-true, ltb-false}
use mathlib.Core.List.{IsPrefix}
use Rattle.turn_lock.specs.Steps.{longer, shorter}

module _ {A : Type 0} where
  pub prefix_self : (xs : List A) → IsPrefix xs xs
  prefix_self [] = ([], refl)
  prefix_self (x ∷ xs) = let rest = prefix_self xs in (rest.0, ap (λ ys. x ∷ ys) rest.1)

  pub prefix_trans : (xs ys zs : List A) → IsPrefix xs ys → IsPrefix ys zs → IsPrefix xs zs
  prefix_trans xs ys zs p q = (
    p.0 ++ q.0,
    sym (append_assoc xs p.0 q.0)
        ∙ (ap (λ w. w ++ q.0) p.1 ∙ q.1),
  )

  either_prefix : (b : Bool) (xs ys zs : List A) → IsPrefix xs zs → IsPrefix ys zs
      → IsPrefix (if b then ys else xs) zs
  either_prefix true xs ys zs p q = q
  either_prefix false xs ys zs p q = p

  pub longer_prefix : (xs ys zs : List A) → IsPrefix xs zs → IsPrefix ys zs
      → IsPrefix (longer xs ys) zs
  longer_prefix xs ys zs p q = either_prefix (nat_lt (length xs) (length ys)) xs ys zs p q

  -- of two lists that begin one list, the shorter begins the longer
  pub prefix_within : (xs ys zs : List A) → IsPrefix xs zs → IsPrefix ys zs → length xs ≤ length ys
      → IsPrefix xs ys
  prefix_within [] ys zs p q l = (ys, refl)
  prefix_within (x ∷ xs) [] zs p q l = absurd (omega arith)
  prefix_within (x ∷ xs) (y ∷ ys) [] p q l = absurd (cc (p.1))
  prefix_within (x ∷ xs) (y ∷ ys) (z ∷ zs) p q l = let on =
      prefix_within xs ys zs (p.0, cc (p.1)) (q.0, cc (q.1)) (omega arith) in
      (on.0, cc (p.1, q.1, on.1))

  shorter_by : (b : Bool) (xs ys zs : List A) → nat_lt (length xs) (length ys) ≡ b → IsPrefix xs zs
      → IsPrefix ys zs → IsPrefix (if b then xs else ys) (if b then ys else xs)
  shorter_by true xs ys zs e p q = prefix_within xs ys zs p q
      (omega (arith, ltb-true (length xs) (length ys) e))
  shorter_by false xs ys zs e p q = prefix_within ys xs zs q p (ltb-false (length xs) (length ys) e)

  pub shorter_prefix : (xs ys zs : List A) → IsPrefix xs zs → IsPrefix ys zs
      → IsPrefix (shorter xs ys) (longer xs ys)
  shorter_prefix xs ys zs p q = shorter_by (nat_lt (length xs) (length ys)) xs ys zs refl p q

  either_both : (b : Bool) (xs ys : List A) → IsPrefix (if b then xs else ys) (if b then ys else xs)
      → IsPrefix xs (if b then ys else xs) × IsPrefix ys (if b then ys else xs)
  either_both true xs ys p = (p, prefix_self ys)
  either_both false xs ys p = (prefix_self xs, p)

  -- then both begin the longer
  pub both_prefix : (xs ys : List A) → IsPrefix (shorter xs ys) (longer xs ys)
      → IsPrefix xs (longer xs ys) × IsPrefix ys (longer xs ys)
  both_prefix xs ys p = either_both (nat_lt (length xs) (length ys)) xs ys p
