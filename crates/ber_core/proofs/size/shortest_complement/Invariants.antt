use Rattle.std.proofs.Common.{◌≡◌, ◌≤◌, length}
use Rattle.ber_core.specs.Integer.{without_redundant}
use Rattle.ber_core.proofs.size.shortest_complement.Given as goal

abbrev pub invariant-loop-rest : goal.invariant-loop-rest
invariant-loop-rest l =
    record {
      same : without_redundant l.rest ≡ without_redundant l.fn.octets;
      within : length l.rest ≤ length l.fn.octets;
    }

abbrev pub decreases-loop-rest : goal.decreases-loop-rest
decreases-loop-rest l = length l.rest
