use Rattle.std.proofs.Common.{rules, ◌≤◌, subst}
use Rattle.turn_lock.proofs.Keeping.{splits, some_is}
use Rattle.turn_lock.proofs.turns.cut.Goals as goal

pub split_seat-requires : goal.split_seat-requires
split_seat-requires g c =
    let o = some_is c.args.seat.now.me.0.origin c.requires.ready in
    let few = subst (λ n. n ≤ c.args.seat.now.me.0.left) c.requires.turns.0 c.requires.turns.1 in
    (search rules, search rules, splits _ _ _ _ _ _ g.N.Share.turns o.0 few o.1)
