use Rattle.std.proofs.Common.{◌≡◌}
use Rattle.rehearsal.specs.Frames.{frames}
use Rattle.rehearsal.proofs.archive.Archive.rehearsed.Given as goal

abbrev pub invariant-loop-i : goal.invariant-loop-i
invariant-loop-i l = l.archive ≡ frames l.i
