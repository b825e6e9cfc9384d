use Rattle.std.specs.Vec.Iter.{into_iter_items}
use Rattle.sample_lock.specs.Team.{Gathered}
use Rattle.sample_lock.proofs.run.gather.Given as goal

abbrev pub invariant-loop-seat : goal.invariant-loop-seat
invariant-loop-seat l = Gathered l.lock l.fn.seats.items l.initial.pass l.yielded
    (into_iter_items l.seat-iterator) l.pass
