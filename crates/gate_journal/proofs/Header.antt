-- The header at the front of a file.
use Rattle.std.proofs.Common.{◌≡◌, ℕ, ◌<◌, ◌≤◌, List, ◌++◌, length, take, drop, slice_index}
use Rattle.std.proofs.Common.{sym, arith}
use Rattle.std.proofs.lemmas.List.{ext_get_or, get_or-take, length-take-le, take-append-drop}
use Rattle.gate_journal.specs.File.{header}

pub leads : (file : List ℕ) → ((k : ℕ) → k < 8
    → (k < length file) × (slice_index file k ≡ slice_index header k))
    → file ≡ header ++ drop 8 file
leads file each =
    let long : 8 ≤ length file = omega (arith, (each 7 (omega arith)).0) in
    let size : length (take 8 file) ≡ 8 = length-take-le 8 file long in
    let front : take 8 file ≡ header =
    ext_get_or 0 _ _ size (λ k below. grind (arith, size, get_or-take, each k)) in
    rw front at (sym (take-append-drop 8 file))
