use Rattle.std.proofs.Common.{◌≡◌, ◌≤◌, length}
use Rattle.ber_core.specs.Length.{without_zeros}
use Rattle.isp1_auth.proofs.digest.without_zeros.Given as goal

abbrev pub invariant-loop-rest : goal.invariant-loop-rest
invariant-loop-rest l = (without_zeros l.rest ≡ without_zeros l.fn.octets)
    × (length l.rest ≤ length l.fn.octets)

abbrev pub decreases-loop-rest : goal.decreases-loop-rest
decreases-loop-rest l = length l.rest
