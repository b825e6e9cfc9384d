use Rattle.archive_terms.proofs.Growth.{is_archive-push, is_ordered-push}
use Rattle.archive_terms.proofs.laws.archive_grows.Goals as goal

pub returns-clause-archive : goal.returns-clause-archive
returns-clause-archive c = is_archive-push

pub returns-clause-order : goal.returns-clause-order
returns-clause-order c = is_ordered-push
