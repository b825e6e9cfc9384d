use Rattle.std.proofs.Common.{◌≡◌, ◌++◌, take}
use Rattle.record_form.specs.Entry.{entries_of}
use Rattle.gate_journal.specs.File.{entries_octets}
use Rattle.gate_journal.proofs.writing.write_entries.Given as goal

abbrev pub invariant-loop-entry : goal.invariant-loop-entry
invariant-loop-entry l = l.into ≡ l.initial.into
    ++ entries_octets (entries_of (take l.entry-index l.entries))
