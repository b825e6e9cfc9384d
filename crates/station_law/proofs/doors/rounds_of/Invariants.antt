use Rattle.std.proofs.Common.{ℕ, ◌-◌}
use Rattle.station_links.specs.Connected.{Connected}
use Rattle.station_law.specs.Standing.{IsOpen}
use Rattle.station_law.proofs.Rounds.{Going}
use Rattle.station_law.proofs.doors.rounds_of.Given as goal

-- some of the rounds were made of whatever connection this is
abbrev pub invariant-loop : goal.invariant-loop
invariant-loop l = (c : ℕ) (first : Connected) → IsOpen l.site c l.fn.connection first
    → Going l.site c l.reading l.rounds l.fn.book first (l.rounds - l.counter) l.book l.said.items
    l.there
