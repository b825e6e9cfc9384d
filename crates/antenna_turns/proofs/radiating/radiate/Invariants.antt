use Rattle.std.proofs.Common.{◌≡◌, ◌+◌, ◌≤◌, List}
use Rattle.std.specs.List.{count_by}
use Rattle.station_turns.specs.Turned.{IsReady}
use Rattle.antenna_turns.specs.Radiating.{worker}
use Rattle.antenna_turns.proofs.Working.{Going}
use Rattle.antenna_turns.proofs.radiating.radiate.Given as goal

abbrev pub invariant-steps : goal.invariant-steps
invariant-steps g l =
    Going g.A.Antenna.sent g.A.Antenna.faults g.C.Clock.readings l.station l.counts
    (worker l.initial.antenna l.initial.clock l.initial.pass)
    (worker l.antenna l.clock l.pass)

abbrev pub decreases-steps : goal.decreases-steps
decreases-steps g l = l.pass.left
