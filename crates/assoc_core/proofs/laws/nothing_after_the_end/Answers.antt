use Rattle.assoc_core.proofs.Runs.{nothing_after_the_end}
use Rattle.assoc_core.proofs.laws.nothing_after_the_end.Goals as goal

pub returns : goal.returns
returns c = nothing_after_the_end
