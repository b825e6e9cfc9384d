use Rattle.std.proofs.Common.{subst, sym}
use Rattle.isp1_auth.specs.Auth.{IsAnswerTo}
use Rattle.isp1_auth.proofs.Answers.{is_answer, worked_out}
use Rattle.isp1_auth.proofs.laws.one_answer.Goals as goal

pub returns : goal.returns
returns c = λ octets secret now answer slice. (
  worked_out octets secret now answer slice,
  λ e. subst (IsAnswerTo octets secret now) (sym e) (is_answer octets secret now slice),
)
