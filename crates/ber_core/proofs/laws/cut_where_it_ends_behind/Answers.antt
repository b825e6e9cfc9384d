use Rattle.ber_core.proofs.Cutting.{found_cut, tree_cut}
use Rattle.ber_core.proofs.laws.cut_where_it_ends_behind.Goals as goal

pub returns-clause-found : goal.returns-clause-found
returns-clause-found c = found_cut

pub returns-clause-tree : goal.returns-clause-tree
returns-clause-tree c = tree_cut
