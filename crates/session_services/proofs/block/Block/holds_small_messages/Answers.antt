use Rattle.std.proofs.Common.{ap, length, subst, arith}
use Rattle.session_services.specs.Whole.{AreSmall}
use Rattle.session_services.proofs.Whole.{alone_is_small}
use Rattle.session_services.proofs.block.Block.holds_small_messages.Goals as goal

pub returns : goal.returns
returns c message is =
    alone_is_small c.one_reading.ensures c.spelled_is_read.ensures.all c.args.self.now
    (subst AreSmall c.self.view_is c.self.invariant.1)
    (omega (arith, ap length c.self.view_is, c.self.invariant.0)) message is
