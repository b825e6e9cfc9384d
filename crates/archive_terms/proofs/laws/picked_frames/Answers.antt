use Rattle.archive_terms.proofs.Picks.{picked-frames}
use Rattle.archive_terms.proofs.laws.picked_frames.Goals as goal

pub returns : goal.returns
returns c = picked-frames
