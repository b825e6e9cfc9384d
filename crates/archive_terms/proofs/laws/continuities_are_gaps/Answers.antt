use Rattle.archive_terms.proofs.Gaps.{continuities_are_gaps, with_frame_before-append}
use Rattle.archive_terms.proofs.laws.continuities_are_gaps.Goals as goal

pub returns-clause-in_order : goal.returns-clause-in_order
returns-clause-in_order c = continuities_are_gaps

pub returns-clause-by_buffer : goal.returns-clause-by_buffer
returns-clause-by_buffer c = with_frame_before-append
