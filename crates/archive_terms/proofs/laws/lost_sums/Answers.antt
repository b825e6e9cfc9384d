use Rattle.archive_terms.proofs.Gaps.{lost_running, lost_one_more, gap-add}
use Rattle.archive_terms.proofs.laws.lost_sums.Goals as goal

pub returns-clause-running : goal.returns-clause-running
returns-clause-running c = lost_running

pub returns-clause-one_more : goal.returns-clause-one_more
returns-clause-one_more c = lost_one_more

pub returns-clause-joined : goal.returns-clause-joined
returns-clause-joined c = gap-add
