use Rattle.std.proofs.Common.{length}
use Rattle.pass_reading.proofs.pass.Reading.put_messages.Given as goal

abbrev pub decreases-loop-message : goal.decreases-loop-message
decreases-loop-message l = length l.messages.messages
