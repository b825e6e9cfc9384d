use Rattle.isp1_auth.proofs.Made.{signed_accepted}
use Rattle.isp1_auth.proofs.laws.signed_is_accepted.Goals as goal

pub returns : goal.returns
returns c = signed_accepted
