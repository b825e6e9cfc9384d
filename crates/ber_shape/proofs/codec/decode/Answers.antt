use Rattle.ber_shape.specs.Exact.{decoded, deeper}
use Rattle.ber_shape.proofs.codec.decode.Goals as goal

pub returns-clause-spelled : goal.returns-clause-spelled
returns-clause-spelled g c =
    decoded g.E.Element.shape g.E.Element.seen c.args.octets.now c.read_whole-decoded.result
    (deeper g.E.Element.shape.levels g.E.Element.is_shallow) c.slice.ensures
    c.read_whole-decoded.ensures
