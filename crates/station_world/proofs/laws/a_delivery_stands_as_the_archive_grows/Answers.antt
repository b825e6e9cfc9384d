use Rattle.station_world.proofs.Longer.{stands_longer}
use Rattle.station_world.proofs.laws.a_delivery_stands_as_the_archive_grows.Goals as goal

pub returns : goal.returns
returns c = stands_longer
