use Rattle.session_laws.proofs.Deliveries.{a_sessions_rounds}
use Rattle.session_laws.proofs.laws.a_sessions_rounds_are_its_deliverys.Goals as goal

pub returns : goal.returns
returns c = a_sessions_rounds c.a_service_leaves_its_session.ensures
