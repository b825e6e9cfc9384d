use Rattle.std.proofs.Common.{◌+◌, ◌/◌, length, rules}
use Rattle.sample_lock.specs.Served.{AtDesk}
use Rattle.sample_lock.proofs.Desks.{each_halves}
use Rattle.sample_lock.proofs.serve.+desks.Goals as goal

pub returns : goal.returns
returns g t c =
    let both = each_halves (λ n s s' d d'. AtDesk c.args.lock.now n s s' (g.D.Desk.told d)
    (g.D.Desk.told d')) c.args.first (c.args.first + length c.args.seats.now / 2)
    c.args.seats.now c.split_at_mut-front_seats.result.0.now c.front_seats-1.given.0
    c.split_at_mut-front_seats.result.1.now c.back_seats-1.given.0 c.args.desks.now
    c.split_at_mut-front_desks.result.0.now c.front_desks-1.given.0
    c.split_at_mut-front_desks.result.1.now c.back_desks-1.given.0 in
    both (search rules) c.split_at_mut-front_seats.ensures.value
    c.split_at_mut-front_desks.ensures.value (search rules) (search rules)
