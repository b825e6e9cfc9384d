-- Numbers of 64 bits without a sign fit an INTEGER of a PDU.
use Rattle.std.proofs.Common.{ℕ, pos, negsuc, ◌-◌, ◌^◌, ◌<◌, arith}
use Rattle.std.proofs.lemmas.Int.{ints}
use Rattle.ber_shape.specs.Content.{InRange}

pub number_fits : (n : ℕ) → n < 2 ^ 64 → InRange (negsuc (2 ^ 63 - 1)) (pos (2 ^ 64 - 1)) (pos n)
number_fits n small = omega (arith, ints)
