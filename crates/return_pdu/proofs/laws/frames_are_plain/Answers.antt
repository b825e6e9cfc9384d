use Rattle.return_pdu.proofs.Plain as plain
use Rattle.return_pdu.proofs.laws.frames_are_plain.Goals as goal

pub returns : goal.returns
returns c = plain.frames_are_plain
