use Rattle.std.proofs.Common.{arith}
use Rattle.turn_lock.proofs.Owned.{stand_last}
use Rattle.turn_lock.proofs.laws.next_event_stands.Goals as goal

pub returns : goal.returns
returns g c = λ h e ms. stand_last h e 0 ms (omega arith)
