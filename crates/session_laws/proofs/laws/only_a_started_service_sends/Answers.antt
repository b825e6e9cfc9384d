use Rattle.session_laws.proofs.Sending.{only_started_send}
use Rattle.session_laws.proofs.laws.only_a_started_service_sends.Goals as goal

pub returns : goal.returns
returns c =
    only_started_send c.a_service_leaves_its_session.ensures c.a_session_keeps_its_instance.ensures
