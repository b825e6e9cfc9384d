use Rattle.turn_lock.proofs.Owned.{all_on}
use Rattle.turn_lock.proofs.laws.own_events_stand_on.Goals as goal

pub returns : goal.returns
returns g c = all_on
