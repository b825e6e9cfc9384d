use Rattle.std.proofs.Common.{length, ap, arith}
use Rattle.std.proofs.lemmas.Grind.{common_steps}
use Rattle.session_services.proofs.Fits.{few_octets}
use Rattle.session_services.proofs.Whole.{added_few, added_small}
use Rattle.session_services.proofs.block.Block.add.Goals as goal

pub invariant_of-self : goal.invariant_of-self
invariant_of-self g c = (
  grind (arith, common_steps),
  added_small c.self.inside.writer.octets c.head.result c.raw.new.self.octets _
      c.encode.new.writer.octets c.length.result c.self.invariant.1 c.raw.ensures.0 c.head.ensures
      c.length.ensures c.encode.ensures.0 (grind (arith, few_octets)),
)

pub returns-clause-few : goal.returns-clause-few
returns-clause-few g c =
    let few =
    added_few c.self.inside.writer.octets c.head.result c.raw.new.self.octets _
    c.encode.new.writer.octets c.length.result c.raw.ensures.0 c.head.ensures c.encode.ensures.0
    (grind (arith, few_octets)) in
    omega (arith, few, ap length c.self.view_is)
