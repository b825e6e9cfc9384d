use Rattle.session_core.proofs.Faults.{faults_are_last}
use Rattle.session_core.proofs.laws.faults_are_last.Goals as goal

pub returns : goal.returns
returns c = faults_are_last
