use Rattle.std.proofs.Common.{◌≡◌, vec_len}
use Rattle.run_host.proofs.host.Doors.make.Given as goal

abbrev pub invariant-loop-port : goal.invariant-loop-port
invariant-loop-port g l = vec_len l.doors ≡ l.port-index
