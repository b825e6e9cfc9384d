use Rattle.std.proofs.Common.{◌==◌}
use Rattle.cltu_queue.specs.Limits.{last_run}
use Rattle.cltu_queue.specs.Machine.{new_run, is_halted, is_interrupted}
use Rattle.fcltu_service.proofs.ByCauses.{start_by, transfer_by}
use Rattle.fcltu_service.proofs.laws.answers_are_by_the_first_cause.Goals as goal

pub returns-clause-start : goal.returns-clause-start
returns-clause-start c = λ s m first now.
    start_by now m (new_run first m) (is_halted m.production) (is_interrupted m.production)
    (m.run == last_run)

pub returns-clause-transfer : goal.returns-clause-transfer
returns-clause-transfer c = λ s m cltu now. transfer_by m cltu now
