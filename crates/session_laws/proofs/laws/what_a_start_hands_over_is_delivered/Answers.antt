use Rattle.session_laws.proofs.Deliveries.{starts_deliver}
use Rattle.session_laws.proofs.laws.what_a_start_hands_over_is_delivered.Goals as goal

pub returns : goal.returns
returns c =
    starts_deliver c.a_service_leaves_its_session.ensures c.each_visit_stands.ensures
