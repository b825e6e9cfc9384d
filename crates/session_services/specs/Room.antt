-- What a block may have before a round's further messages, so that each has its room. This product's
-- own.
use Rattle.std.specs.Prelude.{ℕ, ◌≤◌, List, length}

-- a block has the octets of so many messages at most, each of which has at most 1,032
abbrev pub HasOne : List ℕ → Type 0
HasOne block = length block ≤ 1032

abbrev pub HasTwo : List ℕ → Type 0
HasTwo block = length block ≤ 2064
