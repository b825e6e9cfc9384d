use Rattle.assoc_core.proofs.Checks.{binds_own}
use Rattle.assoc_core.proofs.laws.binds_its_own.Goals as goal

pub returns : goal.returns
returns c = binds_own
