-- The steps of a look, by the number of entries as contracts see them.
use Rattle.std.proofs.Common.{◌≡◌, ℕ, ◌+◌, ◌*◌, ◌^◌, ◌<◌, ◌≤◌, List, length}
use Rattle.std.specs.Prelude.{Result, Ok, Err, IfOk}
use Rattle.std.proofs.lemmas.List.{length-map}
use Rattle.archive_terms.specs.Archive as terms
use Rattle.frame_select.specs.declared.glimpse.Glimpse.{Glimpse}
use Rattle.record_form.specs.Entry.{entries_of}
use Rattle.record_form.specs.declared.entry.Entry.{Entry}

pub steps_seen : {E : Type 0} (r : Result Glimpse E) (entries : List Entry)
    (published : List terms.Entry) (before after : ℕ) → entries_of entries ≡ published
    → IfOk r (λ g. (b : ℕ) → length entries < 2 ^ b
    → after ≤ before + (6 * length g.items + 8 * b + 8))
    → IfOk r (λ g. (b : ℕ) → length published < 2 ^ b
    → after ≤ before + (6 * length g.items + 8 * b + 8))
steps_seen (Ok g) entries published before after same steps =
    λ b below. steps b (rw (← same, length-map) at below)
steps_seen (Err e) entries published before after same steps = tt
