-- A source of entries over TCP, as contracts see it.
use Rattle.std.specs.Prelude.{ℕ}

-- the count of faults
pub record FeedState : Type 0 where
  pub faults : ℕ
