use Rattle.isp1_tml.proofs.Longer.{longer}
use Rattle.isp1_tml.proofs.laws.longer_stream.Goals as goal

pub returns : goal.returns
returns c = longer
