use Rattle.std.proofs.Common.{take}
use Rattle.archive_index.specs.IndexState.{Indexes}
use Rattle.record_form.specs.Entry.{entries_of}
use Rattle.station_book.proofs.extend.index_of.Given as goal

abbrev pub invariant-loop-entry : goal.invariant-loop-entry
invariant-loop-entry l = Indexes l.index (entries_of (take l.entry-index l.entries))
