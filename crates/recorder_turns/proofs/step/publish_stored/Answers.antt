use Rattle.std.proofs.Common.{Err, ap}
use Rattle.recorder_turns.proofs.step.publish_stored.Goals as goal

pub returns-in-Err-Foreign-clause-foreign : goal.returns-in-Err-Foreign-clause-foreign
returns-in-Err-Foreign-clause-foreign g c =
    λ _. c.in-Err-Foreign.ensures.foreign (ap Err c.in-Err-Foreign.field-0-is)
