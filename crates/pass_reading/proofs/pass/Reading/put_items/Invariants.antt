use Rattle.std.proofs.Common.{length}
use Rattle.pass_reading.proofs.pass.Reading.put_items.Given as goal

abbrev pub decreases-loop-item : goal.decreases-loop-item
decreases-loop-item l = length l.buffer
