use Rattle.assoc_core.proofs.Identifiers.{told}
use Rattle.assoc_core.proofs.bind_check.names.Goals as goal

pub returns : goal.returns
returns c = told _ _ _ c.names.ensures
