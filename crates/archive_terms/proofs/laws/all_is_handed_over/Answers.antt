use Rattle.archive_terms.proofs.AllRounds.{all_complete, all_timely}
use Rattle.archive_terms.proofs.laws.all_is_handed_over.Goals as goal

pub returns-clause-complete : goal.returns-clause-complete
returns-clause-complete c = all_complete

pub returns-clause-timely : goal.returns-clause-timely
returns-clause-timely c = all_timely
