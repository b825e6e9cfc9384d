-- A batch that follows what is kept.
use Rattle.std.proofs.Common.{◌≡◌, ◌++◌, ℕ, List, Option, Some, None}
use Rattle.std.proofs.Common.{IfSome}
use Rattle.archive_terms.specs.Archive.{Entry, IsArchive}
use Rattle.record_form.specs.Reading.{ReadBack}
use Rattle.disk_model.specs.Images.{Pending}
use Rattle.gate_journal.specs.File.{StandsAt}
use Rattle.gate_journal.specs.JournalState.{Keeps}
use Rattle.gate_journal.proofs.Unique.{stands_for_one}

pub follows_kept : ReadBack → (pending : Option Pending) (stored batch entries : List Entry)
    → Keeps pending stored → IsArchive (stored ++ batch) → Keeps pending entries
    → IsArchive (entries ++ batch)
follows_kept law (Some told) stored batch entries kept archive keeps =
    rw (stands_for_one law stored entries _ _ told.content kept.1.1 keeps.1.1).0 at archive
follows_kept law None stored batch entries kept archive keeps = absurd kept

pub found_is_kept : ReadBack → (pending : Option Pending) (entries found : List Entry) (gate : ℕ)
    → Keeps pending entries → IfSome pending (λ told. StandsAt found gate told.content)
    → found ≡ entries
found_is_kept law (Some told) entries found gate keeps stands =
    (stands_for_one law found entries gate _ told.content stands keeps.1.1).0
found_is_kept law None entries found gate keeps stands = absurd keeps
