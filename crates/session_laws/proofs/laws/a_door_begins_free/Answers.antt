use Rattle.session_laws.proofs.Losing.{begins_free}
use Rattle.session_laws.proofs.laws.a_door_begins_free.Goals as goal

pub returns : goal.returns
returns c = begins_free c.other_doors_leave_a_door.ensures.instance
