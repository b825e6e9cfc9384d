use Rattle.std.proofs.Common.{◌≡◌, ◌-◌, ◌^◌}
use Rattle.archive_commands.proofs.Gathering.{Going}
use Rattle.archive_commands.proofs.listing.put_batches.Given as goal

abbrev pub invariant-loop-batches : goal.invariant-loop-batches
invariant-loop-batches g l = Going (g.D.Disk.pending l.fn.disk) (g.O.Sink.written l.fn.output)
    (g.O.Sink.written l.output) (g.O.Sink.faults l.fn.output) (g.O.Sink.faults l.output) l.batches
    l.block.items × (l.disk ≡ l.fn.disk)

abbrev pub decreases-loop-batches : goal.decreases-loop-batches
decreases-loop-batches g l = 2 ^ 64 - l.batches.gate
