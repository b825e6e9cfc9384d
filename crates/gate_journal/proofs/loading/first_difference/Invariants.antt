use Rattle.std.proofs.Common.{◌≡◌, ◌<◌, ℕ, length, slice_index}
use Rattle.gate_journal.specs.File.{header}
use Rattle.gate_journal.proofs.loading.first_difference.Given as goal

abbrev pub invariant-loop-place : goal.invariant-loop-place
invariant-loop-place l = (k : ℕ) → k < l.place
    → (k < length l.file) × (slice_index l.file k ≡ slice_index header k)
