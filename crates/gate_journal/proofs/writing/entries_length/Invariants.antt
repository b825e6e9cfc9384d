use Rattle.std.proofs.Common.{◌≡◌, ◌≤◌, ◌*◌, length, take}
use Rattle.record_form.specs.Entry.{entries_of}
use Rattle.record_form.specs.declared.writing.TheConstants.{LONGEST_ENTRY}
use Rattle.gate_journal.specs.File.{entries_octets}
use Rattle.gate_journal.proofs.writing.entries_length.Given as goal

abbrev pub invariant-loop-entry : goal.invariant-loop-entry
invariant-loop-entry l =
    (l.size ≡ length (entries_octets (entries_of (take l.entry-index l.entries))))
    × (l.size ≤ LONGEST_ENTRY * l.entry-index)
