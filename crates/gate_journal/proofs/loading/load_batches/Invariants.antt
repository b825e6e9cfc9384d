use Rattle.std.proofs.Common.{length, ◌-◌, Some}
use Rattle.gate_journal.specs.Order.{Knows}
use Rattle.gate_journal.specs.Reading.{LedTo}
use Rattle.gate_journal.proofs.loading.load_batches.Given as goal

abbrev pub invariant-loop-gate : goal.invariant-loop-gate
invariant-loop-gate l = LedTo l.gate l.entries l.file × Knows l.entries (Some l.times)

abbrev pub decreases-loop-gate : goal.decreases-loop-gate
decreases-loop-gate l = length l.file - l.gate
