use Rattle.ber_shape.specs.Exact.{all_exact, deeper}
use Rattle.ber_shape.proofs.laws.are_exact.Goals as goal

pub returns : goal.returns
returns g c = all_exact g.M.Members.shape (deeper g.M.Members.shape.levels g.M.Members.is_shallow)
