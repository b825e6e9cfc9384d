-- Facts of the answers of an archive's calls.
use Rattle.std.proofs.Common.{◌≡◌, Bool, true, false, Result, Ok, Err, OnOk, OnErr, IfOk, refl}
use Rattle.std.proofs.Common.{Option, Some, None, IsSomeAnd, IfSome}
use Rattle.std.specs.Prelude.{IsErrOf}

-- two facts of a call that is Ok, and what follows
pub both_ok : {X E P Q R : Type 0} (r : Result X E) → (P → Q → R) → OnOk r P → OnOk r Q → OnOk r R
both_ok (Ok x) both p q = both p q
both_ok (Err e) both p q = tt

pub both_err : {X E P Q R : Type 0} (r : Result X E) → (P → Q → R) → OnErr r P → OnErr r Q
    → OnErr r R
both_err (Ok x) both p q = tt
both_err (Err e) both p q = both p q

-- facts of the value
pub of_value : {X E : Type 0} {R : X → Type 0} (r : Result X E) (P Q S T : X → Type 0)
    → ((x : X) → P x → Q x → S x → T x → R x) → IfOk r P → IfOk r Q → IfOk r S → IfOk r T
    → IfOk r R
of_value (Ok x) P Q S T all p q s t = all x p q s t
of_value (Err e) P Q S T all p q s t = tt

-- an archive that is to be opened again answers a fault
pub fresh_ok : {X E Z : Type 0} (R : Type 0) (r : Result X E) (stale : Bool) (fault : E)
    → (stale ≡ true → (r ≡ Err fault) × Z) → (stale ≡ false → OnOk r R) → OnOk r R
fresh_ok R (Err e) stale fault refuses fresh = tt
fresh_ok R (Ok x) false fault refuses fresh = fresh refl
fresh_ok R (Ok x) true fault refuses fresh = let not_so = (refuses refl).0 in absurd cc

-- and no other one
pub fresh_err : {X E Z : Type 0} (r : Result X E) (stale : Bool) (fault other : E)
    → (stale ≡ true → (r ≡ Err fault) × Z) → IsErrOf r other → (fault ≡ other → ⊥) → stale ≡ false
fresh_err (Ok x) stale fault other refuses is differ = let not_so = is in absurd cc
fresh_err (Err e) false fault other refuses is differ = refl
fresh_err (Err e) true fault other refuses is differ =
    let same = (refuses refl).0 in let said = is in absurd (differ cc)

pub at_err : {X E P : Type 0} (r : Result X E) (fault : E) → IsErrOf r fault → OnErr r P → P
at_err (Ok x) fault is holds = let not_so = is in absurd cc
at_err (Err e) fault is holds = holds

-- a disk that tells, and facts of what it tells
pub told_so : {X R : Type 0} (o : Option X) (P Q S : X → Type 0)
    → ((x : X) → P x → Q x → S x → R) → IsSomeAnd o P → IfSome o Q → IfSome o S → R
told_so None P Q S all p q s = absurd p
told_so (Some x) P Q S all p q s = all x p q s
