use Rattle.std.proofs.Common.{◌≡◌, pos, to_z, get_or, refl, arith}
use Rattle.std.specs.Int.{w128}
use Rattle.std.proofs.lemmas.Int.{ints}
use Rattle.std.proofs.lemmas.Bool.{lt-ltb, le-ltb}
use Rattle.ber_core.specs.Length.{number_of}
use Rattle.ber_core.proofs.content.signed_of.Goals as goal

pub returns-then-content-lt128 : goal.returns-then-content-lt128
returns-then-content-lt128 c =
    let e : to_z w128 c.number_of-number.result ≡ pos (number_of c.args.content.now) =
    omega (arith, ints) in
    rw (e, lt-ltb (get_or c.args.content.now 0 0) 128 c.if-content-lt128.true) refl

pub returns-else-content-lt128 : goal.returns-else-content-lt128
returns-else-content-lt128 c =
    rw (le-ltb (get_or c.args.content.now 0 0) 128 c.if-content-lt128.false) (omega (arith, ints))
