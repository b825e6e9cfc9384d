use Rattle.std.proofs.Common.{◌≡◌, Some}
use Rattle.turn_lock.specs.declared.pass.Standing.TheVariants.{Ready}
use Rattle.tests_lock.proofs.threads.write_all.Given as goal

abbrev pub invariant-loop-holds : goal.invariant-loop-holds
invariant-loop-holds g l = (l.pass.lock ≡ Some l.lock) × (l.pass.standing ≡ Ready)

abbrev pub decreases-loop-holds : goal.decreases-loop-holds
decreases-loop-holds g l = l.pass.left
