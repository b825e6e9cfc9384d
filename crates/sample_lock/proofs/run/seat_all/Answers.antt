use Rattle.std.proofs.Common.{rules, false}
use Rattle.sample_lock.specs.declared.seat.Seat.{Seat}
use Rattle.sample_lock.specs.Team.{IsVacant}
use Rattle.sample_lock.proofs.Teams.{seating_more}
use Rattle.sample_lock.proofs.run.seat_all.Goals as goal

pub loop-place-preserved : goal.loop-place-preserved
loop-place-preserved c =
    let new : Seat = record { pass = c.in_ok-pass.pass; spent = false } in
    let vacant : IsVacant c.args.lock.now c.args.turns new = search rules in
    let more = seating_more c.args.lock.now c.args.pass.now c.args.count c.args.turns
    c.loop-place._place c.loop-place.seats.items new c.loop-place.pass c.split.new.pass
    c.loop-place.invariant.0 (search rules) vacant (search rules) in
    search rules
