use Rattle.cltu_queue.proofs.Notified.{expiry, interruption, stop_by_interruption, stop_by_halt}
use Rattle.cltu_queue.proofs.laws.what_is_discarded_is_notified.Goals as goal

pub returns-clause-expired : goal.returns-clause-expired
returns-clause-expired c = λ m now id is. expiry m now id is

pub returns-clause-interrupted : goal.returns-clause-interrupted
returns-clause-interrupted c = λ m run id a is both. interruption m run id a is both

pub returns-clause-production_interrupted : goal.returns-clause-production_interrupted
returns-clause-production_interrupted c = λ m status going other.
    stop_by_interruption m status going other

pub returns-clause-production_halted : goal.returns-clause-production_halted
returns-clause-production_halted c = λ m status going other. stop_by_halt m status going other
