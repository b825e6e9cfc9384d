use Rattle.user_core.proofs.Turns.{lines_in_order}
use Rattle.user_core.proofs.laws.lines_in_order.Goals as goal

pub returns : goal.returns
returns c =
    lines_in_order c.each_is_read.ensures c.is_worked_out.ensures c.goes_on.ensures
    c.refused_for_good.ensures
