use Rattle.std.proofs.Common.{◌-◌, length}
use Rattle.isp1_tml.proofs.Walk.{Walked}
use Rattle.isp1_tml.proofs.feeder.messages_end.Given as goal

-- what is still to be read ends as the whole does
abbrev pub invariant-loop-size : goal.invariant-loop-size
invariant-loop-size l = Walked l.place l.end l.octets

abbrev pub decreases-loop-size : goal.decreases-loop-size
decreases-loop-size l = length l.octets - l.end
