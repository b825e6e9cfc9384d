use Rattle.isp1_tml.proofs.Unreads.{left_is}
use Rattle.isp1_tml.proofs.messages.Messages.left.Goals as goal

pub returns : goal.returns
returns c = rw (← c.self.view_is) (left_is c.self.inside.place c.self.inside.octets.now)
