-- What a rehearsal writes. This product's own.
use Rattle.std.specs.Prelude.{ℕ, ◌-◌, List, [], ◌∷◌, ◌++◌, codes}
use Rattle.std.specs.Fmt.{decimal}
use Rattle.hex.specs.Hex.{encode_lower}
use Rattle.sha1.specs.Sha1.{sha1}
use Rattle.archive_terms.specs.Archive.{Entry}
use Rattle.station_desk.specs.ToldBuffer.{ToldBuffer}
use Rattle.station_desk.specs.Start.{told_desk}
use Rattle.rehearsal.specs.Frames.{time_at, frames_stored, archive}
use Rattle.rehearsal.specs.Counts.{frames_sent, buffers_sent, ends_sent, octets_sent}

-- the buffers of the desk's START for the good frames, from frame 0's time to frame n - 1's
abbrev pub told : ℕ → List ToldBuffer
told n = told_desk (archive n) (time_at 0) (time_at (n - 1)) 0

-- a line: a word, and what it tells
abbrev pub line : List ℕ → List ℕ → List ℕ
line word value = word ++ 32 ∷ (value ++ 10 ∷ [])

-- the lines of three counts of buffers, behind that of the frames stored, and of a digest
abbrev pub lines : ℕ → ℕ → ℕ → ℕ → List ℕ → List ℕ
lines stored sent buffers ends digest =
    line (codes "stored") (decimal stored)
    ++ line (codes "sent") (decimal sent)
    ++ line (codes "buffers") (decimal buffers)
    ++ line (codes "ends") (decimal ends)
    ++ line (codes "digest") (encode_lower digest)

-- what is told of an archive and of the buffers that were handed over of it
abbrev pub report : List Entry → List ToldBuffer → List ℕ
report entries told = lines (frames_stored entries) (frames_sent told) (buffers_sent told)
    (ends_sent told) (sha1 (octets_sent told))

-- the text of a rehearsal of so many frames
abbrev pub text : ℕ → List ℕ
text n = report (archive n) (told n)
