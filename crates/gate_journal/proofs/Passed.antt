-- Passing over entries one after another.
use Rattle.std.proofs.Common.{◌≡◌, ℕ, ◌+◌, List, [], ◌∷◌, ◌++◌}
use Rattle.std.proofs.Common.{Option, Some, None, is_some, Ok, Err, true, false}
use Rattle.std.proofs.Common.{refl, sym}
use Rattle.archive_terms.specs.Archive as terms
use Rattle.archive_terms.specs.Archive.{is_archive, is_storable, keeps_order}
use Rattle.record_form.specs.Reading.{entry_from}
use Rattle.gate_journal.specs.declared.order.Times.{Times}
use Rattle.gate_journal.specs.declared.fault.JournalFault.TheVariants.{Damaged}
use Rattle.gate_journal.specs.Order.{Knows}
use Rattle.gate_journal.specs.Reading.{next_entry}
use Rattle.gate_journal.proofs.Growth.{Grows}

pub known : (entries : List terms.Entry) (times : Option Times) → Knows entries times
    → is_some times ≡ is_archive entries
known entries (Some times) knows = sym knows.0
known entries None knows = sym knows

-- an entry that breaks the order
pub entry_late : Grows → (before : List terms.Entry) (file : List ℕ) (place : ℕ)
    (entry : terms.Entry) (end : ℕ) (times : Times) → entry_from place file ≡ Ok (entry, end)
    → is_storable entry ≡ true → Knows before (Some times) → Knows (before ++ entry ∷ []) None
    → next_entry before file place ≡ Err (Damaged (place + 1))
unfolding next_entry
entry_late grows before file place entry end times read storable knows late =
    let out : keeps_order before entry ≡ false = cc (grows before entry, knows.0) in
    rw (read, out) refl
