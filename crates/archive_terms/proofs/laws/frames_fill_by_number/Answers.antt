use Rattle.archive_terms.proofs.FewFrames.{complete_by_number, picked_short}
use Rattle.archive_terms.proofs.laws.frames_fill_by_number.Goals as goal

pub returns-clause-by_number : goal.returns-clause-by_number
returns-clause-by_number c = complete_by_number

pub returns-clause-of_an_archive : goal.returns-clause-of_an_archive
returns-clause-of_an_archive c = picked_short
