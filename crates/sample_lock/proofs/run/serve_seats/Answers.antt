use Rattle.std.proofs.Common.{rules}
use Rattle.sample_lock.proofs.Teams.{served_back}
use Rattle.sample_lock.proofs.run.serve_seats.Goals as goal

pub returns-clause-idle : goal.returns-clause-idle
returns-clause-idle g c = (served_back g.D.Desk.told c.args.lock.now c.args.turns 0
    c.args.seats.now.len c.args.seats.now.items c.as_mut_slice-all.result.now
    c.serve_desks.new.seats c.args.desks.now c.serve_desks.new.desks (search rules) c.requires.seats
    c.serve_desks.ensures (search rules)).0

pub returns-clause-turns : goal.returns-clause-turns
returns-clause-turns g c = (served_back g.D.Desk.told c.args.lock.now c.args.turns 0
    c.args.seats.now.len c.args.seats.now.items c.as_mut_slice-all.result.now
    c.serve_desks.new.seats c.args.desks.now c.serve_desks.new.desks (search rules) c.requires.seats
    c.serve_desks.ensures (search rules)).1

pub returns-clause-did : goal.returns-clause-did
returns-clause-did g c = (served_back g.D.Desk.told c.args.lock.now c.args.turns 0
    c.args.seats.now.len c.args.seats.now.items c.as_mut_slice-all.result.now
    c.serve_desks.new.seats c.args.desks.now c.serve_desks.new.desks (search rules) c.requires.seats
    c.serve_desks.ensures (search rules)).2
