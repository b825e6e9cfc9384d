-- Counts of faults: an object of the outside fails only where its count rose. This product's own
-- rule.
use Rattle.std.specs.Prelude.{ℕ, ◌+◌, ◌<◌, ◌≤◌, ◌≡◌, ◌⊎◌, min, Result, IsErr, OnOk, OnErr}
use Rattle.octet_core.specs.declared.failed.Failed.{Failed}

-- the last value of a count, at which it stands still
abbrev pub last_count : ℕ
last_count = 18446744073709551615

-- a count that goes up by one
abbrev pub count_up : ℕ → ℕ
count_up n = min (n + 1) last_count

-- A count rose: it is greater than it was, or it stands at its last value, where no rise can show.
abbrev pub Rose : ℕ → ℕ → Type 0
Rose before now = (before < now) ⊎ (last_count ≤ now)

-- a call that leaves the count of faults at `now` fails only where the count went up by one, and is
-- Ok only where it stayed
pub record FailsOnlyByFault {T : Type 0} (before now : ℕ) (result : Result T Failed) : Type 0 where
  pub never_falls : before ≤ now
  pub rose : IsErr result → Rose before now
  pub raised : OnErr result (now ≡ count_up before)
  pub kept : OnOk result (now ≡ before)
