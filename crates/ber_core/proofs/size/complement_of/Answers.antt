use Rattle.ber_core.specs.Facts.Integers.{complement_is}
use Rattle.ber_core.proofs.size.complement_of.Goals as goal

pub returns : goal.returns
returns c = complement_is c.args.value c.to_be_bytes.result c.ranges.value c.to_be_bytes.ensures
