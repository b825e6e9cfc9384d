use Rattle.std.proofs.Common.{◌≡◌, ◌≤◌, ◌-◌, List, Some, length}
use Rattle.archive_terms.specs.Archive.{Entry}
use Rattle.gate_journal.specs.Order.{Knows}
use Rattle.gate_journal.specs.Reading.{entries_at}
use Rattle.gate_journal.proofs.passing.pass_entries.Given as goal

abbrev pub invariant-loop : goal.invariant-loop
invariant-loop l =
    ((before : List Entry) → Knows before (Some l.fn.times) → (mid : List Entry)
    × (entries_at (l.count - l.counter) mid l.file l.end ≡ entries_at l.count before l.file l.place)
    × Knows mid (Some l.times)) × (l.end ≤ length l.file) × (l.place ≤ l.end)
