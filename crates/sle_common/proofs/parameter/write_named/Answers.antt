use Rattle.std.proofs.Common.{◌≡◌, ◌+◌, length, arith, pos, [], ◌∷◌, ◌++◌, ◌∙◌, ap}
use Rattle.ber_core.specs.Integer.{integer_octets}
use Rattle.ber_core.specs.Tree.{primitive, tree_and, no_trees}
use Rattle.ber_core.specs.Spelling.{canonical, canonical_all}
use Rattle.ber_core.specs.Parts.{append_within, appends_two, spelled-tree_and, spelled-alone}
use Rattle.ber_core.specs.Parts.{length-tree_and, length-alone}
use Rattle.sle_common.specs.Parameter.{named_trees}
use Rattle.sle_common.proofs.parameter.write_named.Goals as goal

pub returns : goal.returns
returns g c =
    let name = primitive (0x02 ∷ []) (integer_octets (pos c.args.name)) in
    let value = g.E.Element.shape.tree (g.E.Element.seen c.args.value.now) in
    let count : c.name_size.result + c.size.result
    ≡ length (canonical_all (named_trees c.args.name value)) =
    omega (
      arith,
      c.name_size.ensures.exact,
      c.size.ensures.exact,
      length-tree_and name (tree_and value no_trees),
      length-alone value,
    ) in
    append_within c.args.writer.now c.head.new.self c.write.new.writer c.args.identifier.now
    (canonical name ++ canonical value) _ (named_trees c.args.name value)
    (spelled-tree_and name (tree_and value no_trees)
    ∙ ap (λ rest. canonical name ++ rest) (spelled-alone value)) count c.head.ensures
    (appends_two c.head.new.self c.write_name.new.writer c.write.new.writer (canonical name)
    (canonical value) c.write_name.ensures c.write.ensures)
