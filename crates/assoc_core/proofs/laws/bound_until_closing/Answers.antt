use Rattle.assoc_core.proofs.Steps.{stays_bound}
use Rattle.assoc_core.proofs.laws.bound_until_closing.Goals as goal

pub returns : goal.returns
returns c = stays_bound
