use Rattle.run_events.proofs.Beside.{starts_stand_beside as law}
use Rattle.run_events.proofs.laws.starts_stand_beside.Goals as goal

pub returns : goal.returns
returns c = law
