use Rattle.session_laws.proofs.Starts.{starts_begin, begun_stands}
use Rattle.session_laws.proofs.laws.a_start_begins_a_delivery.Goals as goal

pub returns-clause-begins : goal.returns-clause-begins
returns-clause-begins c = starts_begin c.a_service_leaves_its_session.ensures

pub returns-clause-stands : goal.returns-clause-stands
returns-clause-stands c = begun_stands
