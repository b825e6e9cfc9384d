-- Numbers of the forward CLTU service (CCSDS 912.1-B, annex A).
use Rattle.std.proofs.Common.{ℕ, [], ◌∷◌, refl}
use Rattle.ber_shape.specs.Element.{Element}
use Rattle.sle_common.specs.Natural.{natural}

-- an identification of a CLTU or of an event's invocation, and a delay
abbrev pub unsigned_long : Element ℕ
unsigned_long = natural (0x02 ∷ []) 0 4294967295 refl refl
