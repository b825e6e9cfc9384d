use Rattle.session_core.proofs.Ends.{ends_repeat}
use Rattle.session_core.proofs.laws.ends_repeat.Goals as goal

pub returns : goal.returns
returns c = ends_repeat
