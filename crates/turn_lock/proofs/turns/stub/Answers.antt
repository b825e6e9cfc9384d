use Rattle.std.proofs.Common.{rules}
use Rattle.turn_lock.proofs.Keeping.{stubs, some_is}
use Rattle.turn_lock.proofs.turns.stub.Goals as goal

pub split_seat-requires : goal.split_seat-requires
split_seat-requires g c =
    let o = some_is c.args.seat.now.me.0.origin c.requires.ready in
    (search rules, search rules, stubs _ _ _ _ _ _ o.0 o.1)
