use Rattle.std.proofs.Common.{rules}
use Rattle.station_seats.specs.declared.seat.DoorSeat.{DoorSeat}
use Rattle.station_seats.proofs.Seating.{enough, seating_none, seating_more}
use Rattle.station_seats.proofs.crew.seat_all.Goals as goal

pub split_off-pass-requires-clause-turns : goal.split_off-pass-requires-clause-turns
split_off-pass-requires-clause-turns c =
    enough c.loop-place._place c.args.count c.args.turns c.loop-place.pass.left
    c.args.pass.now.left (search rules) c.requires.turns c.loop-place.invariant.0.left

pub loop-place-preserved : goal.loop-place-preserved
loop-place-preserved c =
    let new : DoorSeat = record { pass = c.split_off-pass.result; report = c.none-report.result } in
    let more = seating_more c.args.station.now c.args.pass.now c.args.turns c.loop-place._place
    c.loop-place.seats.items new c.loop-place.pass c.split_off-pass.new.pass
    c.loop-place.invariant.0 c.split_off-pass.ensures.main c.split_off-pass.ensures.left
    c.split_off-pass.ensures.fresh in
    search rules
