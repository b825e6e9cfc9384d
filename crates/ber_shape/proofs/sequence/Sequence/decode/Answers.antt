use Rattle.ber_shape.specs.Fields.{sequence_decoded}
use Rattle.ber_shape.proofs.sequence.Sequence.decode.Goals as goal

pub returns-clause-spelled : goal.returns-clause-spelled
returns-clause-spelled g c =
    let fields = g.Self.Fields.Members in
    sequence_decoded g.I.Identifier.octet fields.shape
    (λ s. fields.seen (g.Self.Sequence.values_of s)) c.args.octets.now
    c.read_sequence-decoded.result
    c.sequence_is_encodable.ensures fields.is_shallow c.slice.ensures
    c.read_sequence-decoded.ensures
