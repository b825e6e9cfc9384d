use Rattle.archive_terms.proofs.OfflineRounds.{offline_rounds_lem}
use Rattle.archive_terms.proofs.laws.offline_rounds.Goals as goal

pub returns : goal.returns
returns c = offline_rounds_lem
