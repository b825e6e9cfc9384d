use Rattle.station_world.proofs.Staying.{stays}
use Rattle.station_world.proofs.laws.what_was_done_stays.Goals as goal

pub returns : goal.returns
returns c = stays c.rests_on.ensures
