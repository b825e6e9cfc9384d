use Rattle.forward_counts.proofs.Counting.{forward_is_counted}
use Rattle.forward_counts.proofs.laws.reports_are_counted.Goals as goal

pub returns : goal.returns
returns c = forward_is_counted
