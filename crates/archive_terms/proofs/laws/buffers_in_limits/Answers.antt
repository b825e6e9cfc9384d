use Rattle.archive_terms.proofs.Runs.{buffers_in_run}
use Rattle.archive_terms.proofs.laws.buffers_in_limits.Goals as goal

pub returns : goal.returns
returns c = buffers_in_run
