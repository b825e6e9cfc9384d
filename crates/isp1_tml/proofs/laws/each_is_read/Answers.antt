use Rattle.isp1_tml.proofs.Readings.{is_read}
use Rattle.isp1_tml.proofs.laws.each_is_read.Goals as goal

pub returns : goal.returns
returns c = is_read
