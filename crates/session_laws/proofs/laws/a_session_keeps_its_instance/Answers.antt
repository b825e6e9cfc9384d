use Rattle.session_laws.proofs.Instances.{sessions_are_kept}
use Rattle.session_laws.proofs.laws.a_session_keeps_its_instance.Goals as goal

pub returns : goal.returns
returns c = sessions_are_kept
