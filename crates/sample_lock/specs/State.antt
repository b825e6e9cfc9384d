-- An account as contracts see it. This product's own.
use Rattle.std.specs.Prelude.{ℕ, List}
use Rattle.sample_lock.specs.declared.account.Opening.{Opening}

-- what it was opened with; its balance; the latest reading of all calls; the notes of all orders
-- that were booked
pub record State : Type 0 where
  pub opening : Opening
  pub balance : ℕ
  pub latest : ℕ
  pub notes : List (List ℕ)
