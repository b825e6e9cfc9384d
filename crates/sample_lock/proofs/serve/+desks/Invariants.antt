use Rattle.std.proofs.Common.{length}
use Rattle.sample_lock.proofs.serve.+desks.Given as goal

abbrev pub decreases-join_mut+arg2 : goal.decreases-join_mut+arg2
decreases-join_mut+arg2 g l = length l.front_seats.now

abbrev pub decreases-join_mut+arg3 : goal.decreases-join_mut+arg3
decreases-join_mut+arg3 g l = length l.back_seats.now

abbrev pub decreases-serve_desks : goal.decreases-serve_desks
decreases-serve_desks g l = length l.seats.now
