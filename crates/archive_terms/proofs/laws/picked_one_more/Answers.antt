use Rattle.archive_terms.proofs.Growth.{picked-push}
use Rattle.archive_terms.proofs.laws.picked_one_more.Goals as goal

pub returns : goal.returns
returns c = picked-push
