-- A journal's calls, as its contracts say them.
use Rattle.std.proofs.Common.{◌≡◌, ℕ, List, Option, Some, None, IfSome, IfErr, Result, Ok, Err}
use Rattle.std.proofs.Common.{subst}
use Rattle.disk_model.specs.Images.{Pending}
use Rattle.gate_journal.specs.declared.fault.JournalFault.{JournalFault}
use Rattle.gate_journal.specs.declared.fault.JournalFault.TheVariants.{NotJournal, Damaged, Full}
use Rattle.gate_journal.specs.declared.fault.JournalFault.TheVariants.{DiskFault, Stale, Memory}
use Rattle.gate_journal.specs.Reading.{Refuses}
use Rattle.gate_journal.specs.JournalState.{RefusesDisk}

-- what a file says, said of what the disk tells
of_told : (says : List ℕ → Type 0) (pending : Option Pending) (file : List ℕ)
    → IfSome pending (λ told. file ≡ told.content) → says file
    → IfSome pending (λ told. says told.content)
of_told says (Some told) file same said = subst says same said
of_told says None file same said = tt

refuses_told : (fault : JournalFault) (pending : Option Pending) (before after : ℕ) (file : List ℕ)
    → IfSome pending (λ told. file ≡ told.content) → Refuses fault file
    → RefusesDisk fault pending before after
refuses_told (NotJournal place) pending before after = of_told (Refuses (NotJournal place)) pending
refuses_told (Damaged place) pending before after = of_told (Refuses (Damaged place)) pending
refuses_told Memory pending before after = of_told (Refuses Memory) pending
refuses_told (Full need free) pending before after = λ file same refused. absurd refused
refuses_told DiskFault pending before after = λ file same refused. absurd refused
refuses_told Stale pending before after = λ file same refused. absurd refused

pub load_refused : {X : Type 0} (result : Result X JournalFault) (pending : Option Pending)
    (before after : ℕ) (file items : List ℕ) → file ≡ items
    → IfSome pending (λ told. items ≡ told.content) → IfErr result (λ fault. Refuses fault file)
    → IfErr result (λ fault. RefusesDisk fault pending before after)
load_refused (Ok x) pending before after file items is same refused = tt
load_refused (Err fault) pending before after file items is same refused =
    refuses_told fault pending before after items same (subst (Refuses fault) is refused)
