use Rattle.std.proofs.Common.{arith}
use Rattle.cltu_queue.proofs.Sound.{new_is_sound, stays_sound, few_of}
use Rattle.cltu_queue.proofs.laws.few_wait.Goals as goal

pub returns-clause-made : goal.returns-clause-made
returns-clause-made c = new_is_sound

pub returns-clause-after : goal.returns-clause-after
returns-clause-after c = stays_sound

pub returns-clause-notices : goal.returns-clause-notices
returns-clause-notices c = λ m s. omega (arith, s.notices, few_of m)
