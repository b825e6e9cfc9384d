use Rattle.archive_terms.proofs.Links.{discard_was_stalled}
use Rattle.archive_terms.proofs.laws.a_discard_was_stalled.Goals as goal

pub returns : goal.returns
returns c = discard_was_stalled
