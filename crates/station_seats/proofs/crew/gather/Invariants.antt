use Rattle.std.proofs.Common.{◌+◌, ◌≤◌, vec_len, vec_capacity, length}
use Rattle.std.specs.Vec.Iter.{into_iter_items}
use Rattle.station_seats.proofs.Seating.{Gathered}
use Rattle.station_seats.proofs.crew.gather.Given as goal

abbrev pub invariant-loop-seat : goal.invariant-loop-seat
invariant-loop-seat l = Gathered l.station l.fn.seats.items l.initial.pass l.initial.reports.items
    l.yielded (into_iter_items l.seat-iterator) l.pass l.reports.items
    × (vec_len l.reports + length (into_iter_items l.seat-iterator) ≤ vec_capacity l.reports)
