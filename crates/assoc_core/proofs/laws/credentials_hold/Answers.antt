use Rattle.assoc_core.proofs.Steps.{credentials_hold}
use Rattle.assoc_core.proofs.laws.credentials_hold.Goals as goal

pub returns : goal.returns
returns c = credentials_hold
