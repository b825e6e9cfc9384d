use Rattle.std.proofs.Common.{◌++◌, List, take}
use Rattle.archive_terms.specs.Archive.{Entry}
use Rattle.record_form.specs.Entry.{entries_of}
use Rattle.gate_journal.specs.Order.{Knows}
use Rattle.gate_journal.proofs.order.pass.Given as goal

abbrev pub invariant-loop-entry : goal.invariant-loop-entry
invariant-loop-entry l = (earlier : List Entry) → Knows earlier l.fn.before
    → Knows (earlier ++ entries_of (take l.entry-index l.entries)) l.times
