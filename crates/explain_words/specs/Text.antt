-- What a text holds, where memory was never refused.
use Rattle.std.specs.Prelude.{◌≡◌, ℕ, List, ◌++◌, Option, Some, None, Result, Ok, Err}
use denote.Ref.{Bor}

-- Octets stand behind what was there, or memory was refused; what was refused once stays so.
abbrev pub Gains : Option (List ℕ) → Option (List ℕ) → List ℕ → Type 0
Gains None after octets = after ≡ None
Gains (Some before) None octets = Unit {0}
Gains (Some before) (Some after) octets = after ≡ before ++ octets

-- all that was put, or that memory was refused
abbrev pub Keeps : {E : Type 0} → Option (List ℕ) → Result (Bor (List ℕ)) E → Type 0
Keeps None (Ok octets) = ⊥
Keeps None (Err why) = Unit {0}
Keeps (Some put) (Ok octets) = octets.now ≡ put
Keeps (Some put) (Err why) = ⊥
