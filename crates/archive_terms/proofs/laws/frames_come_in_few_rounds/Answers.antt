use Rattle.archive_terms.proofs.FewBuffers.{few_rounds}
use Rattle.archive_terms.proofs.laws.frames_come_in_few_rounds.Goals as goal

pub returns : goal.returns
returns c = few_rounds
