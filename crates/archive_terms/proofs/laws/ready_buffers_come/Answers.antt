use Rattle.archive_terms.proofs.GrowingRounds.{growing_rounds_lem}
use Rattle.archive_terms.proofs.laws.ready_buffers_come.Goals as goal

pub returns : goal.returns
returns c = growing_rounds_lem
