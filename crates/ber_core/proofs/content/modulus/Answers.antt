use Rattle.std.proofs.Common.{◌*◌, ◌∙◌, arith}
use Rattle.std.proofs.Math.Nat.{pow-le-pow_right}
use Rattle.std.proofs.lemmas.Nat.{one_shl}
use Rattle.ber_core.specs.Facts.Numbers.{pow-256}
use Rattle.ber_core.proofs.content.modulus.Goals as goal

pub returns-clause-exact : goal.returns-clause-exact
returns-clause-exact c = one_shl (8 * c.args.count) 128 (omega arith) ∙ pow-256 c.args.count

pub returns-clause-below : goal.returns-clause-below
returns-clause-below c = rw (one_shl (8 * c.args.count) 128 (omega arith))
    (pow-le-pow_right {n = 2} (omega arith) {i = 8 * c.args.count} {j = 72} (omega arith))
