use Rattle.std.proofs.Common.{rules}
use Rattle.turn_lock.proofs.Keeping.{sees, some_is}
use Rattle.turn_lock.proofs.turns.see.Goals as goal

pub load-requires : goal.load-requires
load-requires g c =
    let o = some_is c.args.seat.now.me.0.origin c.requires.holds.0 in
    (search rules, search rules, sees _ _ _ _ _ _ _ o.0 o.1)
