use Rattle.disk_model.proofs.Runs.{fault_now}
use Rattle.disk_model.proofs.laws.a_fault_comes_at_its_call.Goals as goal

pub returns : goal.returns
returns c disk calls k = fault_now calls disk k
