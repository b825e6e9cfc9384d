use Rattle.std.proofs.Common.{◌≤◌, vec_len}
use Rattle.status_port.proofs.status_port.StatusPort.close.Given as goal

abbrev pub invariant-loop-place : goal.invariant-loop-place
invariant-loop-place l = l.place ≤ vec_len l.self.callers

abbrev pub decreases-loop-place : goal.decreases-loop-place
decreases-loop-place l = l.place
