use Rattle.std.proofs.Common.{◌≡◌}
use Rattle.ber_core.specs.Integer.{integer_octets}
use Rattle.ber_core.specs.Facts.Integers.{shortest-integer_octets}
use Rattle.ber_core.proofs.writer.Writer.any_integer.Goals as goal
use Rattle.ber_core.proofs.writer.Writer.any_integer.Goals.{After-shortest_complement}

content : (c : After-shortest_complement) → c.shortest_complement.result.now
    ≡ integer_octets c.args.value
content c = shortest-integer_octets c.args.value c.to_be_bytes.result
    c.shortest_complement.result.now c.ranges.value c.to_be_bytes.ensures
    c.shortest_complement.ensures.shortest

pub octet_string-requires : goal.octet_string-requires
octet_string-requires c = rw (content c) c.requires.fits

pub returns : goal.returns
returns c = rw (← content (goal.at.returns c).After-shortest_complement) c.octet_string.ensures
