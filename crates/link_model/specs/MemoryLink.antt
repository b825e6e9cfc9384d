-- The link in memory, as contracts see it.
use Rattle.std.specs.Prelude.{ℕ, Bool, Option, Some, None, List, if◌then◌else◌}
use Rattle.link_model.specs.declared.call.Call.{Call}
use Rattle.link_model.specs.Steering.{Steering}

-- how it is steered, the calls that it tells, and its counts
pub record LinkState : Type 0 where
  pub steering : Steering
  pub told : Option (List Call)
  pub faults : ℕ
  pub stalls : ℕ

-- the calls that were kept, or none once memory was refused to them
abbrev pub told_of : Bool → List Call → Option (List Call)
told_of tells calls = if tells then Some calls else None

-- the link with another steering
abbrev pub steered : LinkState → Steering → LinkState
steered link steering = record link { steering = steering }
