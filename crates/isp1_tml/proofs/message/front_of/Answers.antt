use Rattle.std.proofs.Common.{◌+◌, rules, arith}
use Rattle.std.proofs.lemmas.Grind.{common_steps}
use Rattle.isp1_tml.proofs.Walk.{front_spelled}
use Rattle.isp1_tml.proofs.message.front_of.Goals as goal

pub returns-clause-exact : goal.returns-clause-exact
returns-clause-exact c = first_of (search rules, grind (arith, common_steps))

pub returns-clause-spelled : goal.returns-clause-spelled
returns-clause-spelled c = front_spelled c.args.place (8 + c.in-Some-declared_length.length)
    c.args.octets.now (λ i. omega (arith, c.type_inv.octets i)) (returns-clause-exact c)
