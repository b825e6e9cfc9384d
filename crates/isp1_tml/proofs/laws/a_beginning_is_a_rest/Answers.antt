use Rattle.isp1_tml.proofs.Parts.{begun}
use Rattle.isp1_tml.proofs.laws.a_beginning_is_a_rest.Goals as goal

pub returns : goal.returns
returns c = begun
