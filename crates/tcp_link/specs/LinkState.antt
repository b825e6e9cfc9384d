-- A link over TCP, as contracts see it.
use Rattle.std.specs.Prelude.{ℕ, ◌<◌, ◌≤◌}

-- how many octets of the block that it took last aren't sent yet, and its counts
pub record LinkState : Type 0 where
  pub unsent : ℕ
  pub faults : ℕ
  pub stalls : ℕ

-- the link with so many octets unsent
abbrev pub unsent_now : LinkState → ℕ → LinkState
unsent_now link unsent = record link { unsent = unsent }

-- octets were left and are still, perhaps fewer
abbrev pub IsStillLeft : ℕ → ℕ → Type 0
IsStillLeft before now = (0 < now) × (now ≤ before)
