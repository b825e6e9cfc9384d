use denote.RattleType.{RattleType}
use denote.Param.Send.{IsSend}
use Rattle.turn_lock.specs.contracts.guard.Guard.{the_row}
use Rattle.turn_lock.proofs.Guards.{guard_send}

pub send : (V : RattleType) → IsSend (the_row V)
send V = guard_send V
