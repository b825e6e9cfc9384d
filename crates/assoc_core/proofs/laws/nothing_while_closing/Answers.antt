use Rattle.assoc_core.proofs.Runs.{nothing_passes}
use Rattle.assoc_core.proofs.laws.nothing_while_closing.Goals as goal

pub returns : goal.returns
returns c = nothing_passes
