use Rattle.std.proofs.Common.{arith}
use Rattle.isp1_tml.proofs.Readings.{reading_is}
use Rattle.isp1_tml.proofs.laws.one_reading.Goals as goal

pub returns : goal.returns
returns c p x ms ns r r' f f' s t = grind (arith, reading_is s, reading_is t)
