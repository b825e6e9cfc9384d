use Rattle.ber_core.proofs.Longer.{found_stays}
use Rattle.ber_core.proofs.Trees.{tree_stays}
use Rattle.ber_core.proofs.laws.a_fault_stays.Goals as goal

pub returns-clause-found : goal.returns-clause-found
returns-clause-found c = found_stays

pub returns-clause-tree : goal.returns-clause-tree
returns-clause-tree c = tree_stays
