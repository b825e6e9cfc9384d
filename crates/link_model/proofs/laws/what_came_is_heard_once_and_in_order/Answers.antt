use Rattle.link_model.proofs.Runs.{run_keeps}
use Rattle.link_model.proofs.laws.what_came_is_heard_once_and_in_order.Goals as goal

pub returns : goal.returns
returns c = λ steering steps. run_keeps steering steps
