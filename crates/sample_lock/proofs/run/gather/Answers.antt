use Rattle.std.proofs.Common.{rules}
use Rattle.sample_lock.proofs.Teams.{gathered_more}
use Rattle.sample_lock.proofs.run.gather.Goals as goal

pub loop-seat-preserved : goal.loop-seat-preserved
loop-seat-preserved c = gathered_more c.args.lock.now c.args.seats.items c.args.pass.now
    c.loop-seat.yielded _ _ c.in-Some.seat c.loop-seat.pass c.join.new.pass c.loop-seat.invariant
    (search rules) (search rules)
