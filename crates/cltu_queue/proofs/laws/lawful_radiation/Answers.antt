use Rattle.cltu_queue.proofs.Lawful.{lawful_run}
use Rattle.cltu_queue.proofs.laws.lawful_radiation.Goals as goal

pub returns : goal.returns
returns c = λ m first events is one. lawful_run m first events is one
