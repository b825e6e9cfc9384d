-- Octets that a writer gets piece by piece.
use Rattle.std.proofs.Common.{◌≡◌, ℕ, ◌+◌, ◌-◌, Option, Some, None, List, [], ◌++◌, length, take}
use Rattle.std.proofs.Common.{drop, sym, ap, ◌∙◌, append_assoc, length-append, length-drop}
use Rattle.std.proofs.Common.{take-add, arith}
use Rattle.std.proofs.lemmas.List.{append-nil, take-append-drop}
use Rattle.std.proofs.Math.Seq.{take-append_seam, take-length}
use Rattle.std.specs.Io.KnownBytes.{Appends, Keeps}
use Rattle.octet_core.specs.Adapters.{AppendsFront}

pub appends_none : (now : Option (List ℕ)) → Appends now now []
appends_none None = tt
appends_none (Some there) = sym (append-nil there)

appends_both : (a b c : Option (List ℕ)) (x y : List ℕ) → Appends a b x → Appends b c y
    → Appends a c (x ++ y)
appends_both None b c x y one two = tt
appends_both (Some p) None c x y one two = absurd one
appends_both (Some p) (Some q) None x y one two = absurd two
appends_both (Some p) (Some q) (Some r) x y one two = two ∙ ap (λ l. l ++ y) one
    ∙ append_assoc p x y

-- the octets from the i-th on, as a slice has them
from_slice : (octets : List ℕ) (i : ℕ) → take (length octets - i) (drop i octets) ≡ drop i octets
from_slice octets i = ap (λ n. take n (drop i octets)) (sym (length-drop i octets))
    ∙ take-length (drop i octets)

pub appends_more : (first mid new : Option (List ℕ)) (octets : List ℕ) (i n : ℕ)
    → Appends first mid (take i octets)
    → Appends mid new (take n (take (length octets - i) (drop i octets)))
    → Appends first new (take (i + n) octets)
appends_more first mid new octets i n so_far more =
    rw (take-add i n octets) (appends_both first mid new (take i octets) (take n (drop i octets))
    so_far (rw (sym (from_slice octets i)) more))

pub appends_kept : (first mid new : Option (List ℕ)) (x : List ℕ) → Appends first mid x
    → Keeps mid new → Appends first new x
appends_kept None mid new x so_far same = tt
appends_kept (Some p) None new x so_far same = absurd so_far
appends_kept (Some p) (Some q) None x so_far same = absurd same
appends_kept (Some p) (Some q) (Some r) x so_far same = same ∙ so_far

pub appends_front : (first now : Option (List ℕ)) (octets : List ℕ) (i : ℕ)
    → Appends first now (take i octets) → AppendsFront first now octets
appends_front None now octets i so_far = tt
appends_front (Some p) None octets i so_far = absurd so_far
appends_front (Some p) (Some q) octets i so_far = (
  omega (arith, ap length so_far, length-append p (take i octets)),
  ap (take (length q)) (ap (λ l. p ++ l) (sym (take-append-drop i octets))
      ∙ sym (append_assoc p (take i octets) (drop i octets)))
      ∙ ap (λ l. take (length l) ((p ++ take i octets) ++ drop i octets)) so_far
      ∙ take-append_seam (p ++ take i octets) (drop i octets) ∙ sym so_far,
)
