use Rattle.isp1_tml.proofs.Readings.{reading_is}
use Rattle.isp1_tml.proofs.laws.is_worked_out.Goals as goal

pub returns : goal.returns
returns c p x ms r f = reading_is
