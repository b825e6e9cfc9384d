use Rattle.session_core.proofs.Serving.{ends_as_it_stands}
use Rattle.session_core.proofs.laws.ends_as_it_stands.Goals as goal

pub returns : goal.returns
returns c = ends_as_it_stands
