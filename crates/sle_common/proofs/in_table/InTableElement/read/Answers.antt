use Rattle.std.proofs.Common.{rules}
use Rattle.sle_common.specs.InTable.{read_outside, read_fault}
use Rattle.sle_common.proofs.in_table.InTableElement.read.Goals as goal

-- src/in_table.rt:28:5
pub returns-in-None-clause-exact : goal.returns-in-None-clause-exact
returns-in-None-clause-exact g c = read_outside g.T.Numbered.number_of g.T.Numbered.all
    g.T.Numbered.each c.args.reader.now _ c.in-Ok.number c.octets.ensures.slice
    c.in-Ok.ensures.exact c.saturating_sub-place.result c.place.result c.integer_length.result
    (search rules) (search rules) (search rules) c.saturating_sub-place.ensures

-- src/in_table.rt:33:27
pub returns-in-Err-clause-exact : goal.returns-in-Err-clause-exact
returns-in-Err-clause-exact g c = read_fault g.T.Numbered.number_of g.T.Numbered.all
    g.T.Numbered.each c.args.reader.now _ c.in-Err.ensures.exact
