use Rattle.std.proofs.Common.{refl}
use Rattle.ber_core.specs.Spelling.{canonical_all}
use Rattle.ber_core.specs.Parts.{append_within}
use Rattle.ber_shape.proofs.members.write_within.Goals as goal

pub returns : goal.returns
returns g c =
    let members = g.M.Members.shape.trees (g.M.Members.seen c.args.value.now) in
    append_within c.args.writer.now c.head.new.self c.write.new.writer
    c.args.identifier.now (canonical_all members) c.size.result members refl
    c.size.ensures.exact
    c.head.ensures c.write.ensures
