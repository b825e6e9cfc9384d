use Rattle.std.proofs.Common.{arith}
use Rattle.ber_core.specs.Facts.Found.{from_each}
use Rattle.ber_core.proofs.laws.slice.Goals as goal

pub returns : goal.returns
returns c = record {
  each = from_each c.args.octets.now (λ i. omega (arith, c.type_inv.octets i));
  short = omega (arith, c.well_formed.0.1);
}
