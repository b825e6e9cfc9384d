use Rattle.std.proofs.Common.{◌≡◌, ◌≤◌, vec_len, vec_capacity}
use Rattle.sample_lock.specs.Team.{Seating}
use Rattle.sample_lock.proofs.run.seat_all.Given as goal

abbrev pub invariant-loop-place : goal.invariant-loop-place
invariant-loop-place l = Seating l.lock l.initial.pass l.count l.turns l._place l.seats.items l.pass
    × (vec_len l.seats ≡ l._place) × (l.count ≤ vec_capacity l.seats)
