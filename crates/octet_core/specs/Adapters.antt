-- The adapters over std's readers and writers: what they tell, which is what their reader or writer
-- tells.
use Rattle.std.specs.Prelude.{ℕ, ⊤, ◌≤◌, Option, None, Some, IsSome, List, ◌++◌, length}
use Rattle.octet_core.specs.Written.{IsFront}

-- a source over a reader: its octets not yet taken, where the reader tells them, and its faults
pub record ReaderState : Type 0 where
  pub left : Option (List ℕ)
  pub faults : ℕ

-- a sink over a writer: what the writer holds, where it tells, and the sink's faults
pub record WriterState : Type 0 where
  pub written : Option (List ℕ)
  pub faults : ℕ

-- what an object tells now, if it told at first; one that didn't tell at first stays silent
abbrev pub told_since : Option (List ℕ) → Option (List ℕ) → Option (List ℕ)
told_since None now = None
told_since (Some first) now = now

-- an object that told at first tells now
abbrev pub StillTells : Option (List ℕ) → Option (List ℕ) → Type 0
StillTells None now = ⊤
StillTells (Some first) now = IsSome now

-- a writer that holds known octets got those that begin `octets`, none or all of them perhaps
abbrev pub AppendsFront : Option (List ℕ) → Option (List ℕ) → List ℕ → Type 0
AppendsFront None now octets = ⊤
AppendsFront (Some there) None octets = ⊥
AppendsFront (Some there) (Some now) octets = (length there ≤ length now)
    × IsFront now (there ++ octets)
