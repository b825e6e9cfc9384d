use Rattle.std.proofs.Common.{rules}
use Rattle.turn_lock.proofs.Keeping.{held_first}
use Rattle.turn_lock.proofs.turns.take_turn.Goals as goal

pub exchange-requires : goal.exchange-requires
exchange-requires g c =
    let before = c.draw-ticket.new.seat.me in
    let h = held_first g.T.StandsFor.origin g.T.StandsFor.stands before.0 before
    c.wait_for.new.seat.me c.wait_for.ensures.takes in
    (search rules, (h.0, h.1))
