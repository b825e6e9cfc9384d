-- Going over the entries of a file behind others, of which the last times are known.
use Rattle.std.specs.Prelude.{◌≡◌, ℕ, List, Option, Some, None, Result, Ok, Err}
use Rattle.archive_terms.specs.Archive.{Entry}
use Rattle.gate_journal.specs.declared.fault.JournalFault.{JournalFault}
use Rattle.gate_journal.specs.declared.order.Times.{Times}
use Rattle.gate_journal.specs.Order.{Knows}

-- a call answered the last times of the entries that reading gives, and where they end, or the
-- fault
abbrev pub Passed : Result (Times × ℕ) JournalFault → Result (List Entry × ℕ) JournalFault → Type 0
Passed (Ok passed) reading = (after : List Entry) × (reading ≡ Ok (after, passed.1))
    × Knows after (Some passed.0)
Passed (Err fault) reading = reading ≡ Err fault

-- the same of a gate
abbrev pub PassedGate : Result (Option (Times × ℕ)) JournalFault
    → Result (Option (List Entry × ℕ)) JournalFault → Type 0
PassedGate (Ok (Some passed)) reading = (after : List Entry)
    × (reading ≡ Ok (Some (after, passed.1))) × Knows after (Some passed.0)
PassedGate (Ok None) reading = reading ≡ Ok None
PassedGate (Err fault) reading = reading ≡ Err fault

-- So it is whatever entries stand before, as long as these are their last times.
abbrev pub Passes : Times → Result (Times × ℕ) JournalFault
    → (List Entry → Result (List Entry × ℕ) JournalFault) → Type 0
Passes times result reading = (before : List Entry) → Knows before (Some times)
    → Passed result (reading before)

abbrev pub PassesGate : Times → Result (Option (Times × ℕ)) JournalFault
    → (List Entry → Result (Option (List Entry × ℕ)) JournalFault) → Type 0
PassesGate times result reading = (before : List Entry) → Knows before (Some times)
    → PassedGate result (reading before)
