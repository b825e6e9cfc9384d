use Rattle.turn_lock.proofs.Weights.{weight_of-made_up}
use Rattle.turn_lock.proofs.laws.made_up_weighs_as_much.Goals as goal

pub returns : goal.returns
returns g c = weight_of-made_up
