use Rattle.std.proofs.Common.{◌≡◌, vec_len}
use Rattle.run_host.proofs.host.clocks_of.Given as goal

abbrev pub invariant-loop-place : goal.invariant-loop-place
invariant-loop-place g l = vec_len l.clocks ≡ l.place
