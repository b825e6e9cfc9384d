use Rattle.session_core.proofs.Messages.{handled_in_order}
use Rattle.session_core.proofs.laws.messages_are_handled_in_order.Goals as goal

pub returns : goal.returns
returns c =
    handled_in_order c.each_is_read.ensures c.longer_stream.ensures
    c.parts_of_two_runs_join.ensures.heard
