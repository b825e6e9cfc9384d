use Rattle.rehearsal.proofs.Script.{of_script}
use Rattle.rehearsal.proofs.laws.a_rehearsal_is_a_script.Goals as goal

pub returns : goal.returns
returns c = of_script
