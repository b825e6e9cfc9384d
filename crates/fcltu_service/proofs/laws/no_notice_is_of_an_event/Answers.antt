use Rattle.std.proofs.Common.{refl}
use Rattle.cltu_queue.specs.Machine.{new_machine}
use Rattle.fcltu_service.proofs.OfQueue.{events_hold}
use Rattle.fcltu_service.proofs.laws.no_notice_is_of_an_event.Goals as goal

pub returns : goal.returns
returns c = λ room longest events. events_hold (new_machine room longest) events refl
