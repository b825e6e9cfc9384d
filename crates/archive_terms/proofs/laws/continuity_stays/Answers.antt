use Rattle.archive_terms.proofs.ToldBuffers.{continuity_stays, buffers_stay, offline_stay}
use Rattle.archive_terms.proofs.ToldBuffers.{run_stays}
use Rattle.archive_terms.proofs.laws.continuity_stays.Goals as goal

pub returns-clause-of_a_frame : goal.returns-clause-of_a_frame
returns-clause-of_a_frame c = continuity_stays

pub returns-clause-of_buffers : goal.returns-clause-of_buffers
returns-clause-of_buffers c = buffers_stay

pub returns-clause-of_an_offline_start : goal.returns-clause-of_an_offline_start
returns-clause-of_an_offline_start c = offline_stay

pub returns-clause-of_a_run : goal.returns-clause-of_a_run
returns-clause-of_a_run c = run_stays
