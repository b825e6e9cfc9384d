use Rattle.std.proofs.Common.{◌≡◌, ◌+◌, ◌≤◌, ◌∷◌, length, ap, arith, rules, vec_len, vec_capacity}
use Rattle.std.specs.Vec.Iter.{into_iter_items}
use Rattle.station_seats.proofs.Seating.{gathered_none, gathered_more}
use Rattle.station_seats.proofs.crew.gather.Goals as goal

pub loop-seat-init : goal.loop-seat-init
loop-seat-init c =
    let none = gathered_none c.args.station.now c.args.seats.items c.args.pass.now
    c.args.reports.now.items c.requires.ready c.requires.single in
    search rules

pub loop-seat-preserved : goal.loop-seat-preserved
loop-seat-preserved c =
    let left = into_iter_items c.next.new.self in
    let rest : into_iter_items c.loop-seat.seat-iterator ≡ c.in-Some.seat ∷ left = search rules in
    let room = c.loop-seat.invariant.1 in
    let long = ap length rest in
    let count : vec_len c.push_reserved.new.self ≡ vec_len c.loop-seat.reports + 1 = search rules in
    let capacity : vec_capacity c.push_reserved.new.self ≡ vec_capacity c.loop-seat.reports =
    search rules in
    let fits : vec_len c.push_reserved.new.self + length left
    ≤ vec_capacity c.push_reserved.new.self = omega (arith, room, long, count, capacity) in (
      gathered_more c.args.station.now c.args.seats.items c.args.pass.now
          c.args.reports.now.items c.loop-seat.yielded (into_iter_items c.loop-seat.seat-iterator) left
          c.in-Some.seat c.loop-seat.pass c.join.new.pass c.loop-seat.reports.items
          c.push_reserved.new.self.items c.loop-seat.invariant.0 rest c.join.ensures.both
          c.push_reserved.ensures.items,
      fits,
    )
