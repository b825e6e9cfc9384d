-- Numbers of PDUs (CCSDS 911.1-B, annex A).
use Rattle.std.proofs.Common.{ℕ, ℤ, [], ◌∷◌, refl}
use Rattle.ber_shape.specs.Content.{any_integer}
use Rattle.ber_shape.specs.Element.{Element, simple}
use Rattle.sle_common.specs.Natural.{natural}

-- the invoke id
abbrev pub invoke_id : Element ℕ
invoke_id = natural (0x02 ∷ []) 0 65535 refl refl

-- an INTEGER without a range of its own: 64 bits, signed or unsigned
abbrev pub number : Element ℤ
number = simple (0x02 ∷ []) any_integer refl
