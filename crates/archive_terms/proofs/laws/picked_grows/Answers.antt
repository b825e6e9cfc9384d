use Rattle.archive_terms.proofs.Picks.{picked-prefix}
use Rattle.archive_terms.proofs.laws.picked_grows.Goals as goal

pub returns : goal.returns
returns c = picked-prefix
