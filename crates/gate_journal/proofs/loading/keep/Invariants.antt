use Rattle.std.proofs.Common.{◌≡◌, ◌++◌, length}
use Rattle.gate_journal.proofs.loading.keep.Given as goal

abbrev pub invariant-loop-entry : goal.invariant-loop-entry
invariant-loop-entry l = l.entries ++ l.batch ≡ l.initial.entries ++ l.fn.batch

abbrev pub decreases-loop-entry : goal.decreases-loop-entry
decreases-loop-entry l = length l.batch
