use Rattle.std.proofs.Common.{◌++◌, drop}
use Rattle.record_form.specs.Entry.{entries_of}
use Rattle.script_store.specs.Steps.{Behind}
use Rattle.archive_commands.specs.Archives.{entries_text}
use Rattle.archive_commands.proofs.listing.put_entries.Given as goal

-- what the block holds and the lines of the entries to come are what is still to be written
abbrev pub invariant-loop-entry : goal.invariant-loop-entry
invariant-loop-entry g l = record {
  behind : Behind (g.O.Sink.written l.initial.output) (g.O.Sink.written l.output)
      (g.O.Sink.faults l.initial.output) (g.O.Sink.faults l.output)
      (l.initial.block.items ++ entries_text (entries_of l.entries))
      (l.block.items ++ entries_text (entries_of (drop l.entry-index l.entries)));
}
