use Rattle.assoc_core.proofs.Steps.{by_the_table}
use Rattle.assoc_core.proofs.laws.moves_by_the_table.Goals as goal

pub returns : goal.returns
returns c = by_the_table
