use Rattle.std.proofs.Common.{subst, sym}
use Rattle.isp1_auth.specs.Auth.{IsAnswerTo}
use Rattle.isp1_auth.proofs.Answers.{is_answer}
use Rattle.isp1_auth.proofs.checking.check.Goals as goal

pub returns-clause-answer : goal.returns-clause-answer
returns-clause-answer c =
    let octets = c.in-Used.octets.now in
    rw c.in-Used.is
    (subst (IsAnswerTo octets c.args.secret.now c.args.now) (sym c.check_used-answer.ensures)
    (is_answer octets c.args.secret.now c.args.now c.slice.ensures))
