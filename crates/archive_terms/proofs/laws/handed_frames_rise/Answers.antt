use Rattle.archive_terms.proofs.Runs.{frames_in_run}
use Rattle.archive_terms.proofs.laws.handed_frames_rise.Goals as goal

pub returns : goal.returns
returns c = frames_in_run
