use Rattle.std.proofs.Common.{◌≡◌, ◌*◌, length}
use Rattle.sample_disk.proofs.Recovery.{IsSoFar}
use Rattle.sample_disk.proofs.gates.read_all.Given as goal

abbrev pub invariant-loop-count : goal.invariant-loop-count
invariant-loop-count g l =
    (l.disk ≡ l.initial.disk) × (length l.octets ≡ l.count)
    × IsSoFar (g.D.Disk.pending l.initial.disk) l.octets (2 * l.count)
