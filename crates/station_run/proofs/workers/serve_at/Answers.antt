use Rattle.std.proofs.Common.{rules}
use Rattle.station_run.proofs.Seats.{served_back}
use Rattle.station_run.proofs.workers.serve_at.Goals as goal

pub returns : goal.returns
returns g c =
    served_back g.G.Door.shown g.G.Door.faults g.G.Link.Link.calls g.G.Link.Link.faults
    g.C.Clock.readings c.args.station.now c.args.site.now c.args.draw c.args.links c.args.turns
    c.args.seats.now.len c.args.seats.now.items c.as_mut_slice-all.result.now
    c.serve_doors.new.seats c.args.doors.now c.serve_doors.new.doors c.args.clocks.now
    c.serve_doors.new.clocks (search rules) c.requires.can.5 c.serve_doors.ensures (search rules)
