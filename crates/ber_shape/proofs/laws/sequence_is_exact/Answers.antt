use Rattle.ber_shape.specs.Fields.{sequence_exact}
use Rattle.ber_shape.proofs.laws.sequence_is_exact.Goals as goal

pub returns : goal.returns
returns g c is_tag = sequence_exact g.I.Identifier.octet g.S.Fields.Members.shape
    c.sequence_is_encodable.ensures g.S.Fields.Members.is_shallow is_tag
