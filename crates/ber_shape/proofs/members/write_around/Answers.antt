use Rattle.std.proofs.Common.{◌∙◌}
use Rattle.ber_core.specs.Tree.{tree_and, no_trees}
use Rattle.ber_core.specs.Spelling.{canonical}
use Rattle.ber_core.specs.Parts.{append_within, spelled-alone, length-alone}
use Rattle.ber_shape.proofs.members.write_around.Goals as goal

pub returns : goal.returns
returns g c =
    let t = g.E.Element.shape.tree (g.E.Element.seen c.args.value.now) in
    append_within c.args.writer.now c.head.new.self c.write.new.writer
    c.args.identifier.now (canonical t) c.size.result (tree_and t no_trees) (spelled-alone t)
    (c.size.ensures.exact ∙ length-alone t) c.head.ensures c.write.ensures
