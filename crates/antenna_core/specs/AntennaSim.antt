-- The antenna in memory, as contracts see it. This product's own rule.
use Rattle.std.specs.Prelude.{ℕ, Bool, false, ◌||◌, if◌then◌else◌, Option, Some, None, List, []}
use Rattle.octet_core.specs.FailingCalls.{Calls, fails_next, after_call}

-- what it tells as sent, whether the next call is broken, which of all calls fail, and the count of
-- faults
pub record SimState : Type 0 where
  pub told : Option (List (List ℕ))
  pub is_broken : Bool
  pub failing : Calls
  pub faults : ℕ

-- nothing was sent yet, and these calls are to fail
abbrev pub unsent : List ℕ → SimState
unsent calls = record {
  told = Some [];
  is_broken = false;
  failing = record { failing = calls; made = 0 };
  faults = 0;
}

-- what was kept, or none once memory was refused to it
abbrev pub told_of : Bool → List (List ℕ) → Option (List (List ℕ))
told_of tells sent = if tells then Some sent else None

-- whether the next call fails
abbrev pub fails_now : SimState → Bool
fails_now sim = sim.is_broken || fails_next sim.failing

-- a call was made, behind which this is told, and so many faults are counted
abbrev pub after_send : SimState → Option (List (List ℕ)) → ℕ → SimState
after_send sim told faults = record {
  told = told;
  is_broken = false;
  failing = after_call sim.failing;
  faults = faults;
}
