use Rattle.archive_terms.proofs.Prefixes.{prefix_stays}
use Rattle.archive_terms.proofs.laws.handed_over_stays_a_prefix.Goals as goal

pub returns : goal.returns
returns c = prefix_stays
