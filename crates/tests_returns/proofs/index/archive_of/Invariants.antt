use Rattle.archive_terms.specs.Archive.{IsArchive}
use Rattle.archive_index.specs.IndexState.{Indexes}
use Rattle.record_form.specs.Entry.{entries_of}
use Rattle.tests_returns.proofs.index.archive_of.Given as goal

abbrev pub invariant-loop-entry : goal.invariant-loop-entry
invariant-loop-entry l = Indexes l.index (entries_of l.shelf) × IsArchive (entries_of l.shelf)
