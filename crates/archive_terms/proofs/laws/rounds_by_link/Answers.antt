use Rattle.archive_terms.proofs.Links.{blocked_round, waiting_round, taken_round, not_due_round}
use Rattle.archive_terms.proofs.Links.{failed_round}
use Rattle.archive_terms.proofs.laws.rounds_by_link.Goals as goal

pub returns-clause-blocked : goal.returns-clause-blocked
returns-clause-blocked c = blocked_round

pub returns-clause-waiting : goal.returns-clause-waiting
returns-clause-waiting c = waiting_round

pub returns-clause-taken : goal.returns-clause-taken
returns-clause-taken c = taken_round

pub returns-clause-not_due : goal.returns-clause-not_due
returns-clause-not_due c = not_due_round

pub returns-clause-failed : goal.returns-clause-failed
returns-clause-failed c = failed_round
