-- The source and the sink in memory: their states, and what a call makes of one.
use Rattle.std.specs.Prelude.{ℕ, ◌≡◌, ◌⊎◌, ◌/◌, Bool, true, IsTrue, List, ◌++◌, length, take, drop}
use Rattle.octet_core.specs.Fault.{count_up}
use Rattle.octet_core.specs.FailingCalls.{Calls, fails_next, after_call}

-- a source in memory: its octets not yet taken, its calls, and its faults
pub record SourceState : Type 0 where
  pub left : List ℕ
  pub calls : Calls
  pub faults : ℕ

-- the source after a call that took n octets
abbrev pub after_taking : SourceState → ℕ → SourceState
after_taking source n = record source { left = drop n source.left; calls = after_call source.calls }

-- the source after a call that failed, which took nothing
abbrev pub after_failing : SourceState → SourceState
after_failing source = record source {
  calls = after_call source.calls;
  faults = count_up source.faults;
}

-- a sink in memory: what was written, its calls, its faults, and whether memory was refused
pub record SinkState : Type 0 where
  pub written : List ℕ
  pub calls : Calls
  pub faults : ℕ
  pub memory_refused : Bool

-- the sink with these octets behind what it wrote
abbrev pub with_written : SinkState → List ℕ → SinkState
with_written sink octets = record sink { written = sink.written ++ octets }

-- the sink with one fault more
abbrev pub with_fault : SinkState → SinkState
with_fault sink = record sink { faults = count_up sink.faults }

-- the sink with one fault more, for want of memory
abbrev pub with_refusal : SinkState → SinkState
with_refusal sink = record sink { faults = count_up sink.faults; memory_refused = true }

-- the sink with one call more
abbrev pub with_call : SinkState → SinkState
with_call sink = record sink { calls = after_call sink.calls }

-- a call that failed was a listed one, which wrote the first half of its octets, or was refused
-- memory and wrote none
abbrev pub IsFailedPut : SinkState → List ℕ → SinkState → Type 0
IsFailedPut old octets new =
    (IsTrue (fails_next old.calls)
    × (new ≡ with_fault (with_written (with_call old) (take (length octets / 2) octets))))
    ⊎ (new ≡ with_refusal (with_call old))
