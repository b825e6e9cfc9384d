use Rattle.archive_terms.proofs.Offers.{ready_offered, late_offered}
use Rattle.archive_terms.proofs.laws.what_is_ready_is_offered.Goals as goal

pub returns-clause-ready : goal.returns-clause-ready
returns-clause-ready c = ready_offered

pub returns-clause-late : goal.returns-clause-late
returns-clause-late c = late_offered
