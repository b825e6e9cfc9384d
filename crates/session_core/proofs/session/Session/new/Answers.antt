use Rattle.std.proofs.Common.{refl}
use Rattle.session_core.proofs.Listed.{first_shown}
use Rattle.session_core.proofs.session.Session.new.Goals as goal

pub returns-clause-lists : goal.returns-clause-lists
returns-clause-lists c b door draw entered =
    first_shown b _ c.args.door c.args.draw c.args.now refl c.in_ok-feeder.ensures
    c.in_ok-standing.ensures c.any_pieces.ensures.begins door draw entered
