use Rattle.cltu_queue.proofs.Lawful.{stays_blocked}
use Rattle.cltu_queue.proofs.laws.blocked_until_the_next_start.Goals as goal

pub returns-clause-blocked : goal.returns-clause-blocked
returns-clause-blocked c = λ m events is one. (stays_blocked m events is one).blocked

pub returns-clause-accepts_none : goal.returns-clause-accepts_none
returns-clause-accepts_none c = λ m events is one. (stays_blocked m events is one).accepts_none

pub returns-clause-radiates_none : goal.returns-clause-radiates_none
returns-clause-radiates_none c = λ m events is one. (stays_blocked m events is one).radiates_none
