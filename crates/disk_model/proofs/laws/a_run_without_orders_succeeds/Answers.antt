use Rattle.disk_model.proofs.Runs.{unordered_run}
use Rattle.disk_model.proofs.laws.a_run_without_orders_succeeds.Goals as goal

pub returns : goal.returns
returns c disk calls = unordered_run calls disk
