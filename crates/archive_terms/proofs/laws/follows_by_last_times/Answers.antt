use Rattle.archive_terms.proofs.Growth.{keeps_order-by_times, may_follow-by_times, closed-by_times}
use Rattle.archive_terms.proofs.laws.follows_by_last_times.Goals as goal

pub returns-clause-order : goal.returns-clause-order
returns-clause-order c = keeps_order-by_times

pub returns-clause-archive : goal.returns-clause-archive
returns-clause-archive c = may_follow-by_times

pub returns-clause-closed : goal.returns-clause-closed
returns-clause-closed c = closed-by_times
