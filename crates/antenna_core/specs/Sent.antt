-- What a call of an antenna sent. This product's own rule.
use Rattle.std.specs.Prelude.{ℕ, List, [], ◌∷◌, Result, Ok, Err}
use Rattle.octet_core.specs.declared.failed.Failed.{Failed}

-- the octets that it was handed, or nothing where it failed
abbrev pub sent_by : {T : Type 0} → Result T Failed → List ℕ → List (List ℕ)
sent_by (Ok done) octets = octets ∷ []
sent_by (Err failed) octets = []
