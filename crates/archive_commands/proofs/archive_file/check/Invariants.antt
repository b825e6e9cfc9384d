use Rattle.std.proofs.Common.{◌≡◌, ◌-◌, ◌^◌, List}
use Rattle.archive_terms.specs.Archive.{Entry}
use Rattle.gate_journal.specs.Batches.{HasPassed}
use Rattle.archive_commands.proofs.archive_file.check.Given as goal

abbrev pub invariant-loop-batches : goal.invariant-loop-batches
invariant-loop-batches g l = (entries : List Entry)
    × HasPassed (g.D.Disk.pending l.fn.disk) entries l.batches × (l.disk ≡ l.fn.disk)

abbrev pub decreases-loop-batches : goal.decreases-loop-batches
decreases-loop-batches g l = 2 ^ 64 - l.batches.gate
