use Rattle.station_world.proofs.Calls.{desk}
use Rattle.station_world.proofs.laws.a_desk_start_is_events.Goals as goal

pub returns : goal.returns
returns c = desk c.rests_on.ensures
