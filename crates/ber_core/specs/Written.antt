-- What contracts see of a writer.
use Rattle.std.specs.Prelude.{ℕ, ◌+◌, ◌≤◌, ◌≡◌, List, ◌++◌, length}

-- the octets that were appended, and how many more fit
pub record Written : Type 0 where
  pub octets : List ℕ
  pub room : ℕ

-- the octets fit into what is left
abbrev pub HasRoom : Written → List ℕ → Type 0
HasRoom writer octets = length octets ≤ writer.room

-- the octets stand behind what was there, and take their room
abbrev pub Appends : Written → Written → List ℕ → Type 0
Appends before after octets =
    (after.octets ≡ before.octets ++ octets) × (after.room + length octets ≡ before.room)
