use Rattle.std.proofs.Common.{◌-◌}
use Rattle.door_turns.specs.Visits.{at_door}
use Rattle.door_turns.proofs.Links.{Going}
use Rattle.door_turns.proofs.worker.serve_links.Given as goal

abbrev pub invariant-links : goal.invariant-links
invariant-links g l =
    Going g.G.Door.shown g.G.Door.faults g.G.Link.Link.calls g.G.Link.Link.faults
    g.C.Clock.readings l.station l.site l.number l.draw l.links l.report
    (at_door l.initial.door l.initial.clock l.initial.pass) (at_door l.door l.clock l.pass)

abbrev pub decreases-links : goal.decreases-links
decreases-links g l = l.links - l.report.links
