-- An antenna that writes to a file, as contracts see it.
use Rattle.std.specs.Prelude.{ℕ}

-- the count of faults
pub record AntennaState : Type 0 where
  pub faults : ℕ
