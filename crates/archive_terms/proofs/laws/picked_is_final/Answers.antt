use Rattle.archive_terms.proofs.Picks.{picked_is_final_lem}
use Rattle.archive_terms.proofs.laws.picked_is_final.Goals as goal

pub returns-clause-nothing_more : goal.returns-clause-nothing_more
returns-clause-nothing_more c = picked_is_final_lem
