use Rattle.std.proofs.Common.{arith}
use Rattle.std.proofs.lemmas.Int.{ints}
use Rattle.ber_core.specs.Facts.Integers.{low_octet, high_octet}
use Rattle.ber_core.proofs.size.one_octet.Goals as goal

pub returns-then-value-lt0 : goal.returns-then-value-lt0
returns-then-value-lt0 c = high_octet c.args.value _ (omega (arith, ints)) (omega (arith, ints))
    c.ranges.value (omega (arith, ints))

pub returns-else-value-lt0 : goal.returns-else-value-lt0
returns-else-value-lt0 c = low_octet c.args.value _ (omega (arith, ints)) c.ranges.value
    (omega (arith, ints))
