use Rattle.isp1_auth.proofs.Answers.{accepted, near}
use Rattle.isp1_auth.proofs.laws.accepted_while_near.Goals as goal

pub returns : goal.returns
returns c = λ octets secret claim moment now says protected. (
  near octets secret now claim moment says,
  λ close. accepted octets secret now claim moment says close protected,
)
