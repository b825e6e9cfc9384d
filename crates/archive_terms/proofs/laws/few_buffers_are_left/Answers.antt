use Rattle.archive_terms.proofs.AllRounds.{few_buffers_lem}
use Rattle.archive_terms.proofs.laws.few_buffers_are_left.Goals as goal

pub returns : goal.returns
returns c = few_buffers_lem
