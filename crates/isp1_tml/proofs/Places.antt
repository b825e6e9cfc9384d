-- A fault depends on the place before it only as far as a place counts.
use Rattle.std.proofs.Common.{◌≡◌, ℕ, ◌+◌, List, [], ◌∷◌, Option, Some, None, refl, arith}
use Rattle.isp1_tml.specs.Fault.{capped, bad_type, wrong_size, fault_of}

-- the octets before these are as many, as far as a place counts
abbrev pub SamePlace : ℕ → ℕ → Type 0
SamePlace p q = capped p ≡ capped q

pub SamePlace-add : (p q n : ℕ) → SamePlace p q → SamePlace (p + n) (q + n)
SamePlace-add p q n h = omega arith

pub SamePlace-capped : (p : ℕ) → SamePlace (capped p) p
SamePlace-capped p = omega arith

same_type : (p q : ℕ) (x : List ℕ) → SamePlace p q → bad_type p x ≡ bad_type q x
same_type p q [] h = refl
same_type p q (k ∷ x) h = cc

same_size : (p q k : ℕ) (o : Option ℕ) → SamePlace p q → wrong_size p k o ≡ wrong_size q k o
same_size p q k None h = refl
same_size p q k (Some n) h = cc (SamePlace-add p q 4 h)

pub fault_of-same : (p q : ℕ) (x : List ℕ) → SamePlace p q → fault_of p x ≡ fault_of q x
fault_of-same p q x h =
    let further : (n i : ℕ) → SamePlace (p + n + i) (q + n + i) = λ n i. omega arith in
    simp (same_type p q, same_size p q, further)
