use Rattle.std.proofs.Common.{◌≡◌, ◌+◌, ◌*◌, ◌^◌, ◌<◌, drop, length, get_or, arith}
use Rattle.std.proofs.Math.Nat.{pow-le-pow_right}
use Rattle.ber_core.specs.Length.{number_of}
use Rattle.ber_core.specs.Facts.Numbers.{IsOctets-from_each, number_of-narrow, number_of-below}
use Rattle.ber_core.specs.Facts.Numbers.{number_of-more, number_of-fits}
use Rattle.ber_core.proofs.content.number_of.Goals as goal
use Rattle.ber_core.proofs.content.number_of.Goals.{In-loop-octet, After-loop-octet}

narrow : (c : In-loop-octet) → number_of c.args.octets.now < 2 ^ 72
narrow c = number_of-narrow c.args.octets.now
    (IsOctets-from_each c.args.octets.now (λ i. omega (arith, c.type_inv.octets i))) c.requires

more : (c : In-loop-octet)
    → (c.loop-octet.number * 256 + get_or c.args.octets.now c.loop-octet.octet-index 0) * 256 ^
    length (drop (c.loop-octet.octet-index + 1) c.args.octets.now)
    + number_of (drop (c.loop-octet.octet-index + 1) c.args.octets.now)
    ≡ number_of c.args.octets.now
more c = number_of-more c.args.octets.now c.loop-octet.octet-index c.loop-octet.number
    c.loop-octet-test.true c.loop-octet.invariant

pub overflow_mul-number : goal.overflow_mul-number
overflow_mul-number c =
    omega (
      arith,
      narrow c,
      number_of-fits c.args.octets.now
          (drop c.loop-octet.octet-index c.args.octets.now) c.loop-octet.number
          c.loop-octet.invariant,
    )

pub overflow_add-number : goal.overflow_add-number
overflow_add-number c =
    let at = (goal.at.overflow_add-number c).In-loop-octet in
    omega (
      arith,
      narrow at,
      number_of-fits c.args.octets.now
          (drop (c.loop-octet.octet-index + 1) c.args.octets.now) _ (more at),
    )

pub loop-octet-preserved : goal.loop-octet-preserved
loop-octet-preserved c = rw c.from.ensures (more (goal.at.loop-octet-preserved c).In-loop-octet)

bound : (c : After-loop-octet) → c.loop-octet.number < 256 ^ length c.args.octets.now
bound c =
    omega (
      arith,
      number_of-fits c.args.octets.now (drop c.loop-octet.octet-index c.args.octets.now)
          c.loop-octet.number c.loop-octet.invariant,
      number_of-below c.args.octets.now (IsOctets-from_each c.args.octets.now
          (λ i. omega (arith, c.type_inv.octets i))),
    )

pub returns-clause-below : goal.returns-clause-below
returns-clause-below c = bound (goal.at.returns-clause-below c).After-loop-octet

pub returns-clause-narrow : goal.returns-clause-narrow
returns-clause-narrow c =
    omega (
      arith,
      bound (goal.at.returns-clause-narrow c).After-loop-octet,
      pow-le-pow_right {n = 256} (omega arith) c.requires,
    )

pub returns-clause-eight : goal.returns-clause-eight
returns-clause-eight c = λ short.
    omega (
      arith,
      bound (goal.at.returns-clause-eight c).After-loop-octet,
      pow-le-pow_right {n = 256} (omega arith) short,
    )
