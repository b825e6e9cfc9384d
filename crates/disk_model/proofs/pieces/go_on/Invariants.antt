use Rattle.std.proofs.Common.{◌≡◌}
use Rattle.disk_model.proofs.pieces.go_on.Given as goal

abbrev pub invariant-loop : goal.invariant-loop
invariant-loop g l = l.file ≡ l.fn.file
