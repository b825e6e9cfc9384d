use Rattle.ber_shape.specs.Exact.{exact, deeper}
use Rattle.ber_shape.proofs.laws.is_exact.Goals as goal

pub returns : goal.returns
returns g c = exact g.E.Element.shape (deeper g.E.Element.shape.levels g.E.Element.is_shallow)
    c.requires
