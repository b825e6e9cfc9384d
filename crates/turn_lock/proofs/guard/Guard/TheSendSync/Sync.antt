use denote.RattleType.{RattleType}
use denote.Param.Send.{IsSync, part_keyless}
use Rattle.turn_lock.specs.contracts.guard.Guard.{the_row}
use Rattle.turn_lock.proofs.Guards.{guard_send}

pub sync : (V : RattleType) → IsSync (the_row V)
sync V = record { shared = λ d b o ν q. part_keyless (the_row V) (guard_send V) q d b o }
