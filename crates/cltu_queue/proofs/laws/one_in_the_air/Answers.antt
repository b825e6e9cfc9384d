use Rattle.cltu_queue.proofs.Aloft.{stays_alone}
use Rattle.cltu_queue.proofs.Notified.{radiation}
use Rattle.cltu_queue.proofs.laws.one_in_the_air.Goals as goal

pub returns-clause-takes_off : goal.returns-clause-takes_off
returns-clause-takes_off c = λ m now run id octets is. radiation m now run id octets is

pub returns-clause-stays : goal.returns-clause-stays
returns-clause-stays c = λ m events a is none. (stays_alone m events a is none).stays

pub returns-clause-radiates_none : goal.returns-clause-radiates_none
returns-clause-radiates_none c = λ m events a is none.
    (stays_alone m events a is none).radiates_none
