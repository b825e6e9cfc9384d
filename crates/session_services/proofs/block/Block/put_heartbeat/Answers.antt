use Rattle.std.proofs.Common.{arith}
use Rattle.std.proofs.lemmas.Grind.{common_steps}
use Rattle.session_services.proofs.Whole.{beat_small}
use Rattle.session_services.proofs.block.Block.put_heartbeat.Goals as goal

pub invariant_of-self : goal.invariant_of-self
invariant_of-self c = (
  grind (arith, common_steps),
  beat_small c.clear.new.self.octets c.head.result c.raw.new.self.octets c.clear.ensures.octets
      c.head.ensures c.raw.ensures.0,
)
