use Rattle.std.proofs.Common.{length, ◌-◌, ◌≤◌}
use Rattle.disk_model.specs.RawFile.{ReadsFront}
use Rattle.disk_model.proofs.pieces.read_whole.Given as goal

abbrev pub invariant-loop-done : goal.invariant-loop-done
invariant-loop-done g l = ReadsFront (g.F.RawFile.pending l.fn.file) l.place l.done l.into
    × (l.done ≤ length l.into)

abbrev pub decreases-loop-done : goal.decreases-loop-done
decreases-loop-done g l = length l.into - l.done
