-- What an object of the outside tells of its calls, and which of them it counts. This product's own
-- rule.
use Rattle.std.specs.Prelude.{ℕ, ◌≤◌, ◌≡◌, Option, IfSome, IsSomeAnd, List, ◌++◌, Bool, IsTrue}
use Rattle.std.specs.Prelude.{IsFalse}
use Rattle.octet_core.specs.Fault.{count_up, Rose}

-- An object that tells has told before, and then this. One that has stopped telling never tells
-- again.
abbrev pub Tells : {A : Type 0} → Option (List A) → Option (List A) → List A → Type 0
Tells before after own =
    IfSome after (λ told. IsSomeAnd before (λ earlier. told ≡ earlier ++ own))

-- A call is counted exactly where this holds of its answer: there the count goes up by one, and
-- elsewhere it stays.
pub record CountsWhere (counted : Bool) (before now : ℕ) : Type 0 where
  pub never_falls : before ≤ now
  pub rose : IsTrue counted → Rose before now
  pub raised : IsTrue counted → now ≡ count_up before
  pub kept : IsFalse counted → now ≡ before
