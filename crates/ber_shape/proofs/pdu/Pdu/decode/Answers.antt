use Rattle.ber_shape.specs.Members.{structured}
use Rattle.ber_shape.specs.Exact.{decoded, one_deeper}
use Rattle.ber_shape.proofs.pdu.Pdu.decode.Goals as goal

pub returns-clause-spelled : goal.returns-clause-spelled
returns-clause-spelled g c =
    decoded (structured g.Self.Pdu.tag g.Self.Members.shape g.Self.Pdu.is_tag) g.Self.Members.seen
    c.args.octets.now c.read_pdu-decoded.result
    (one_deeper g.Self.Members.shape.levels g.Self.Members.is_shallow) c.slice.ensures
    c.read_pdu-decoded.ensures
