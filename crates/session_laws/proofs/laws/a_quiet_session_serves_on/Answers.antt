use Rattle.session_laws.proofs.Quiet.{quiet_serves_on}
use Rattle.session_laws.proofs.laws.a_quiet_session_serves_on.Goals as goal

pub returns : goal.returns
returns c = quiet_serves_on c.a_service_leaves_its_session.ensures
