use Rattle.disk_model.proofs.Runs.{stop_later, stop_now}
use Rattle.disk_model.proofs.laws.a_stop_comes_at_its_call.Goals as goal

pub returns-clause-later : goal.returns-clause-later
returns-clause-later c disk calls stop = stop_later calls disk stop

pub returns-clause-now : goal.returns-clause-now
returns-clause-now c disk calls stop = stop_now calls disk stop
