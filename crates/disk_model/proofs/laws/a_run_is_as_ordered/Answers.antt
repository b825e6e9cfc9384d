use Rattle.disk_model.proofs.Runs.{all_made, failed_at_one}
use Rattle.disk_model.proofs.laws.a_run_is_as_ordered.Goals as goal

pub returns-clause-made : goal.returns-clause-made
returns-clause-made c old new calls = all_made calls old new

pub returns-clause-failed : goal.returns-clause-failed
returns-clause-failed c old new calls = failed_at_one calls old new
