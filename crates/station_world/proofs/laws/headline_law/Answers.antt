use Rattle.station_world.proofs.Headlines.{headline}
use Rattle.station_world.proofs.laws.headline_law.Goals as goal

pub returns : goal.returns
returns c = headline c.rests_on.ensures
