use Rattle.cltu_queue.proofs.InTurn.{radiated_once}
use Rattle.cltu_queue.proofs.laws.nothing_radiates_twice.Goals as goal

pub returns : goal.returns
returns c = λ room longest events. radiated_once room longest events
