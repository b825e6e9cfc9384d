-- What the outside of the program shows.
use Rattle.std.specs.Prelude.{ℕ, Option, List}

-- the octets that the input has left and those that the output holds, where they tell, and how
-- often each has failed
pub record Outside : Type 0 where
  pub left : Option (List ℕ)
  pub read_faults : ℕ
  pub written : Option (List ℕ)
  pub write_faults : ℕ

-- an input with so much left and so many faults, and an output that holds so much and has so many
-- faults
abbrev pub showing : Option (List ℕ) → ℕ → Option (List ℕ) → ℕ → Outside
showing left read_faults written write_faults =
    record {
      left = left;
      read_faults = read_faults;
      written = written;
      write_faults = write_faults;
    }
