use Rattle.std.proofs.Common.{rules}
use Rattle.turn_lock.specs.Steps.{entering, finding}
use Rattle.turn_lock.proofs.Keeping.{held_first}
use Rattle.turn_lock.proofs.turns.Turns.close.Goals as goal

pub exchange-requires : goal.exchange-requires
exchange-requires g c =
    let before = c.borrow_last.new.seat.me in
    let h = held_first g.T.StandsFor.origin g.T.StandsFor.stands
    (entering (finding before.0 c.take_last-found.result) c.take_last-found.result) before
    c.take_last-found.new.seat.me (c.take_last-found.ensures.takes c.if-found-entered.false).0
    in
    (search rules, (h.0, h.1))
