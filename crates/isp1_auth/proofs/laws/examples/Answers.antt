use Rattle.std.proofs.Common.{◌∙◌, ap, arith, Err}
use Rattle.isp1_auth.specs.declared.auth_fault.AuthFault.TheVariants.{TooOld}
use Rattle.isp1_auth.proofs.Answers.{accepted, too_old}
use Rattle.isp1_auth.proofs.laws.examples.Goals as goal

pub returns-clause-accepted : goal.returns-clause-accepted
returns-clause-accepted c = λ octets secret now is.
    accepted octets secret now is.claim is.moment is.says (omega (arith, is.age, is.away))
    is.protected

pub returns-clause-refused : goal.returns-clause-refused
returns-clause-refused c = λ octets secret now is.
    too_old octets secret now is.claim is.moment is.says (omega (arith, is.age, is.away))
    ∙ ap (λ picos. Err (TooOld picos)) is.away
