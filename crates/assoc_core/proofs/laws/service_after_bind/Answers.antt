use Rattle.assoc_core.proofs.Runs.{service_after_bind}
use Rattle.assoc_core.proofs.laws.service_after_bind.Goals as goal

pub returns : goal.returns
returns c = service_after_bind
