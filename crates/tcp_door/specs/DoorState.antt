-- A door over TCP and its link, as contracts see them.
use Rattle.std.specs.Prelude.{ℕ, Bool}

-- whether a link is out, and the count of faults
pub record DoorState : Type 0 where
  pub is_out : Bool
  pub faults : ℕ

-- a link's counts
pub record DoorLinkState : Type 0 where
  pub faults : ℕ
  pub stalls : ℕ
