use Rattle.session_core.proofs.Staying.{service_leaves}
use Rattle.session_core.proofs.laws.a_service_leaves_its_session.Goals as goal

pub returns : goal.returns
returns c = service_leaves
