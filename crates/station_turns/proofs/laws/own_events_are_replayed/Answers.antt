use Rattle.station_turns.proofs.Replayed.{own_is_replayed}
use Rattle.station_turns.proofs.laws.own_events_are_replayed.Goals as goal

pub returns : goal.returns
returns c = own_is_replayed
