-- Octets are read alike at places that count alike.
use Rattle.std.proofs.Common.{◌≡◌, ℕ, zero, suc, ◌+◌, List, [], ◌∷◌, length, drop, Option, Some, None}
use Rattle.std.proofs.Common.{refl, ap, arith}
use Rattle.isp1_tml.specs.declared.tml_fault.TmlFault.{TmlFault}
use Rattle.isp1_tml.specs.Fault.{capped, bad_type, wrong_size, fault_of}
use Rattle.isp1_tml.specs.Reading.{Reading, reading, reading_by, reading_within, at_end}
use Rattle.isp1_tml.specs.Stream.{whole_size}

-- as many octets stand before, as far as a place counts
abbrev pub SamePlace : ℕ → ℕ → Type 0
SamePlace p q = capped p ≡ capped q

further : (p q n : ℕ) → SamePlace p q → SamePlace (p + n) (q + n)
further p q n h = omega arith

same_type : (p q : ℕ) (x : List ℕ) → SamePlace p q → bad_type p x ≡ bad_type q x
same_type p q [] h = refl
same_type p q (k ∷ x) h = cc

same_size : (p q k : ℕ) (o : Option ℕ) → SamePlace p q → wrong_size p k o ≡ wrong_size q k o
same_size p q k None h = refl
same_size p q k (Some n) h = cc (further p q 4 h)

same_fault : (p q : ℕ) (x : List ℕ) → SamePlace p q → fault_of p x ≡ fault_of q x
same_fault p q x h =
    let both : (n i : ℕ) → SamePlace (p + n + i) (q + n + i) = λ n i. omega arith in
    simp (same_type p q, same_size p q, both)

by_same : (f g : ℕ → Reading) (x : List ℕ) (fault : Option TmlFault) (size : Option ℕ)
    → ((s : ℕ) → f s ≡ g s) → reading_by f x fault size ≡ reading_by g x fault size
by_same f g x (Some fault) size h = refl
by_same f g x None None h = refl
by_same f g x None (Some s) h = cc (h s)

same_within : (n p q : ℕ) (x : List ℕ) → SamePlace p q
    → reading_within n p x ≡ reading_within n q x
unfolding reading_within
same_within zero p q x h = ap (at_end x) (same_fault p q x h)
same_within (suc n) p q x h =
    rw (same_fault p q x h)
    (by_same _ _ x (fault_of q x) (whole_size x)
    (λ s. same_within n (p + s) (q + s) (drop s x) (further p q s h)))

pub same_reading : (p q : ℕ) (x : List ℕ) → SamePlace p q → reading p x ≡ reading q x
same_reading p q x h = same_within (length x) p q x h
