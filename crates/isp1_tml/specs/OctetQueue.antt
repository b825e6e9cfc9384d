-- Octets that wait in a reserved place, behind those that were given from it.
use Rattle.std.specs.Prelude.{ℕ, List}

pub record Queue : Type 0 where
  pub given : List ℕ
  pub waiting : List ℕ
