-- The content octets of an INTEGER (X.690 8.3).
use Rattle.std.specs.Prelude.{ℕ, ◌-◌, ◌^◌, ℤ, pos, negsuc, ◌-ℤ◌, ◌≤ℤ◌, Bool, false, ◌==◌, ◌&&◌}
use Rattle.std.specs.Prelude.{◌||◌, List, [], ◌∷◌, length, slice_index, nat_lt, nat_le}
use Rattle.std.specs.Prelude.{if◌then◌else◌}
use Rattle.ber_core.specs.Length.{number_of}
use Rattle.std.specs.Int.{w128, to_be_bytes, cast_unsigned}

-- The first octet says nothing that the sign of the second doesn't say: the standard forbids it
-- (8.3.2).
abbrev pub is_redundant : List ℕ → Bool
is_redundant (first ∷ second ∷ octets) = (first == 0 && nat_lt second 128)
    || (first == 255 && nat_le 128 second)
is_redundant octets = false

unfoldable pub without_redundant : List ℕ → List ℕ
without_redundant [] = []
without_redundant (first ∷ octets) = if is_redundant (first ∷ octets) then without_redundant octets
    else first ∷ octets

-- the number that content octets say in two's complement (8.3.3)
abbrev pub signed_of : List ℕ → ℤ
signed_of octets =
    if nat_lt (slice_index octets 0) 128 then pos (number_of octets)
    else pos (number_of octets) -ℤ pos (256 ^ length octets)

-- more than 64 bits, signed or unsigned, in the fewest octets
abbrev pub is_wide : List ℕ → Bool
is_wide octets = nat_lt 9 (length octets) || (length octets == 9 && nat_lt 0 (slice_index octets 0))

-- the two's complement of z (8.3.3), in the fewest octets
unfoldable pub integer_octets : ℤ → List ℕ
integer_octets z = without_redundant (to_be_bytes w128 (cast_unsigned w128 z))

-- this product's limit on an INTEGER: 64 bits, signed or unsigned
pub record Has64Bits (z : ℤ) : Type 0 where
  pub least : negsuc (2 ^ 63 - 1) ≤ℤ z
  pub greatest : z ≤ℤ pos (2 ^ 64 - 1)
