use Rattle.archive_terms.proofs.StillRounds.{still_rounds_lem}
use Rattle.archive_terms.proofs.laws.still_rounds.Goals as goal

pub returns : goal.returns
returns c = still_rounds_lem
