use Rattle.isp1_tml.proofs.Feedings.{fresh_is, fresh_split}
use Rattle.isp1_tml.proofs.feeder.Feeder.new.Goals as goal

pub invariant_of-result : goal.invariant_of-result
invariant_of-result c = rw c.in_ok-held.ensures fresh_split

pub returns : goal.returns
returns c = rw c.in_ok-held.ensures fresh_is
