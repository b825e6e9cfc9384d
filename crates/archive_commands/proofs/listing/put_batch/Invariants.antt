use Rattle.std.proofs.Common.{◌++◌, length, IsTrue}
use Rattle.std.specs.List.{list_all}
use Rattle.archive_terms.specs.Archive.{is_storable}
use Rattle.script_store.specs.Steps.{Behind}
use Rattle.archive_commands.specs.Archives.{entries_text}
use Rattle.archive_commands.proofs.listing.put_batch.Given as goal

-- what the block holds and the lines of the entries to come are what is still to be written
abbrev pub invariant-loop-entry : goal.invariant-loop-entry
invariant-loop-entry g l = IsTrue (list_all is_storable l.batch)
    × Behind (g.O.Sink.written l.initial.output) (g.O.Sink.written l.output)
    (g.O.Sink.faults l.initial.output) (g.O.Sink.faults l.output)
    (l.initial.block.items ++ entries_text l.fn.batch) (l.block.items ++ entries_text l.batch)

abbrev pub decreases-loop-entry : goal.decreases-loop-entry
decreases-loop-entry g l = length l.batch
