use Rattle.isp1_tml.proofs.Longer.{refused-append}
use Rattle.isp1_tml.proofs.laws.refused_for_good.Goals as goal

pub returns : goal.returns
returns c = refused-append
