use Rattle.assoc_core.proofs.Runs.{context_first}
use Rattle.assoc_core.proofs.laws.context_first.Goals as goal

pub returns : goal.returns
returns c = context_first
