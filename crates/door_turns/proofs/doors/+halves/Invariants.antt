use Rattle.std.proofs.Common.{◌+◌, ◌*◌, length}
use Rattle.door_turns.proofs.doors.+halves.Given as goal

abbrev pub decreases-serve_halves-join_mut+arg2 : goal.decreases-serve_halves-join_mut+arg2
decreases-serve_halves-join_mut+arg2 g l = length l.front_seats.now * 3 + 3

abbrev pub decreases-serve_halves-join_mut+arg3 : goal.decreases-serve_halves-join_mut+arg3
decreases-serve_halves-join_mut+arg3 g l = length l.back_seats.now * 3 + 3

abbrev pub decreases-serve_halves : goal.decreases-serve_halves
decreases-serve_halves g l = (length l.front_seats.now + length l.back_seats.now) * 3 + 1

abbrev pub decreases-serve_doors : goal.decreases-serve_doors
decreases-serve_doors g l = length l.seats.now * 3 + 2
