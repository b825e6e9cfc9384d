-- What the images of a recorder's disk are between two lines.
use Rattle.std.proofs.Common.{◌≡◌, false, Option, List, refl, subst}
use Rattle.archive_terms.specs.Archive.{Entry}
use Rattle.record_form.specs.declared.entry.Entry as form
use Rattle.gate_journal.specs.JournalState.{IsOldOrNew}
use Rattle.script_store.specs.declared.script_recorder.Recorder.TheInside.{Inside}
use Rattle.script_store.specs.IsHeld.{IsHeld, begun_list, KeepsAllOrNone}
use Rattle.script_store.specs.Stopped.{HoldsAlone}
use Rattle.script_store.specs.Unmoved.{left_alone}
use Rattle.script_store.proofs.WorldArchives.{stands_alone}

-- unless it is spent each image stands for what is published
pub holds_alone : (w : Inside) → IsHeld w.archive w.published w.times w.begun w.order w.is_spent
    → w.is_spent ≡ false → HoldsAlone w.archive.disk w.published
holds_alone w held ready image is = stands_alone w.published image
    (subst (λ (begun : Option form.Entry). IsOldOrNew w.published (begun_list begun) image)
    (held.ready ready).none_begun (held.images image is))

pub idle : (w : Inside) → IsHeld w.archive w.published w.times w.begun w.order w.is_spent
    → w.is_spent ≡ false → (batch : List Entry)
    → KeepsAllOrNone w.archive.disk w.archive.disk w.published batch
idle w held ready batch =
    left_alone w.archive.disk w.archive.disk w.published batch refl (holds_alone w held ready)
