use Rattle.station_world.proofs.Calls.{calls_are_events as law}
use Rattle.station_world.proofs.laws.calls_are_events.Goals as goal

pub returns : goal.returns
returns c = law
