use Rattle.std.proofs.Common.{◌≡◌, ◌*◌, length, ap, arith, rules}
use Rattle.station_run.proofs.Seats.{fresh_turns}
use Rattle.station_run.proofs.crew.Crew.seated.Goals as goal

pub returns-clause-left : goal.returns-clause-left
returns-clause-left c =
    let first = c.split_off-recorder.ensures.left in
    let second = c.split_off-antenna.ensures.left in
    let rest = c.in_ok-doors.ensures.left in
    let size : length c.in_ok-doors.doors.items ≡ c.args.count = search rules in
    let sum = fresh_turns c.args.station.now c.args.turns c.in_ok-doors.doors.items
    c.in_ok-doors.ensures.seats.1 in
    let same = ap (λ n. n * c.args.turns) size in
    omega (arith, first, second, rest, sum, same)
