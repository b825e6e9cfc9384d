use Rattle.std.proofs.Common.{length, ap}
use Rattle.ber_core.specs.Facts.Integers.{shortest-integer_octets}
use Rattle.ber_core.proofs.size.integer_length.Goals as goal

pub returns-clause-exact : goal.returns-clause-exact
returns-clause-exact c =
    ap length (shortest-integer_octets c.args.value c.to_be_bytes.result
    c.shortest_complement.result.now c.ranges.value c.to_be_bytes.ensures
    c.shortest_complement.ensures.shortest)
