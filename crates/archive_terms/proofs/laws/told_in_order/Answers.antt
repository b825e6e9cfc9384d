use Rattle.archive_terms.proofs.ToldBuffers.{told-join, told_continuities}
use Rattle.archive_terms.proofs.laws.told_in_order.Goals as goal

pub returns-clause-by_buffer : goal.returns-clause-by_buffer
returns-clause-by_buffer c = told-join

pub returns-clause-continuities : goal.returns-clause-continuities
returns-clause-continuities c = told_continuities
