-- Which calls of a double fail: one list and one count for all of them. This product's own rule.
use Rattle.std.specs.Prelude.{ℕ, Bool, nat_eq, List}
use Rattle.std.specs.List.{list_any}
use Rattle.octet_core.specs.Fault.{count_up}

-- the calls that fail, counted from 1, and how many were made
pub record Calls : Type 0 where
  pub failing : List ℕ
  pub made : ℕ

-- whether the next call is one of those that fail
abbrev pub fails_next : Calls → Bool
fails_next calls = list_any (λ call. nat_eq call (count_up calls.made)) calls.failing

-- one call more was made
abbrev pub after_call : Calls → Calls
after_call calls = record calls { made = count_up calls.made }
