use Rattle.std.proofs.Common.{◌≡◌, ◌≤◌, vec_len, vec_capacity}
use Rattle.station_seats.proofs.Seating.{Seating}
use Rattle.station_seats.proofs.crew.seat_all.Given as goal

abbrev pub invariant-loop-place : goal.invariant-loop-place
invariant-loop-place l = Seating l.station l.initial.pass l.turns l._place l.seats.items l.pass
    × (vec_len l.seats ≡ l._place) × (l.count ≤ vec_capacity l.seats)
