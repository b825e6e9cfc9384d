use Rattle.return_pdu.proofs.Frames.{frames_short}
use Rattle.return_pdu.proofs.laws.frames_are_short.Goals as goal

pub returns : goal.returns
returns c = frames_short
