use Rattle.session_core.proofs.One.{one_session}
use Rattle.session_core.proofs.laws.one_session.Goals as goal

pub returns : goal.returns
returns c = one_session
