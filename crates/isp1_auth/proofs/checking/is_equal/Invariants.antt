use Rattle.std.proofs.Common.{◌≡◌, ◌&&◌, length, drop, nat_eq}
use Rattle.std.specs.Cmp.Lexicographic.{pointwise}
use Rattle.isp1_auth.proofs.checking.is_equal.Given as goal

abbrev pub invariant-loop-i : goal.invariant-loop-i
invariant-loop-i l = (length l.digest ≡ length l.the_protected)
    × ((l.equal && pointwise nat_eq (drop l.i l.digest) (drop l.i l.the_protected))
    ≡ pointwise nat_eq l.digest l.the_protected)
