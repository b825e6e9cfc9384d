-- How many octets of a file the entries of a rehearsal want.
use Rattle.std.proofs.Common.{◌≡◌, ℕ, [], ◌∷◌, ◌++◌, length, refl}
use Rattle.std.proofs.Common.{length-append, arith}
use Rattle.std.specs.Int.{w32, to_be_bytes}
use Rattle.archive_terms.specs.Archive.{seal}
use Rattle.record_form.specs.Spelling.{entry_octets, time_octets, antenna_octets, content_octets}
use Rattle.sle_numbers.specs.FrameQuality.{number_of}
use Rattle.rehearsal.specs.Frames.{time_at, quality_at, octets_at, length-octets_at, entry_at}

pub length-frame : (i : ℕ) → length (entry_octets (entry_at i)) ≡ 1136
length-frame i = omega (
  arith,
  length-octets_at i,
  length-append (time_octets (time_at i)) (number_of (quality_at i) ∷ [] ++ (antenna_octets (0x41 ∷ [])
      ++ (to_be_bytes w32 0 ++ content_octets (octets_at i)))),
  length-append (to_be_bytes w32 (length (octets_at i))) (octets_at i),
)

pub length-seal : (i : ℕ) → length (entry_octets (seal (time_at i))) ≡ 10
length-seal i = refl
