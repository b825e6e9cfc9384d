use Rattle.ber_shape.specs.Exact.{structured_exact}
use Rattle.ber_shape.proofs.laws.pdu_is_exact.Goals as goal

pub returns : goal.returns
returns g c = structured_exact g.P.Pdu.tag g.P.Members.shape g.P.Pdu.is_tag g.P.Members.is_shallow
    c.is_small.ensures
