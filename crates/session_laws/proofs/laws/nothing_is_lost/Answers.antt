use Rattle.session_laws.proofs.Losing as losing
use Rattle.session_laws.proofs.laws.nothing_is_lost.Goals as goal

pub returns : goal.returns
returns c =
    losing.nothing_is_lost c.binds_its_own.ensures c.other_doors_leave_a_door.ensures.instance
    c.other_doors_leave_a_door.ensures.run c.a_service_leaves_its_session.ensures
