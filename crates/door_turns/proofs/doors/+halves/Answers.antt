use Rattle.std.proofs.Common.{◌+◌, ◌/◌, length, rules}
use Rattle.door_turns.specs.Doors.{WorksAt}
use Rattle.door_turns.proofs.Rows.{each_made}
use Rattle.door_turns.proofs.doors.+halves.Goals as goal

pub serve_doors-returns : goal.serve_doors-returns
serve_doors-returns g t c =
    each_made (WorksAt g.G.Door.shown g.G.Door.faults g.G.Link.Link.calls
    g.G.Link.Link.faults g.C.Clock.readings c.args.station.now c.args.site.now c.args.draw
    c.args.links) c.args.first (c.args.first + length c.args.seats.now / 2)
    c.args.seats.now _ c.split_at_mut-front_seats.result.0.now c.serve_halves.new.front_seats
    c.split_at_mut-front_seats.result.1.now c.serve_halves.new.back_seats
    c.args.doors.now _ c.split_at_mut-front_doors.result.0.now c.serve_halves.new.front_doors
    c.split_at_mut-front_doors.result.1.now c.serve_halves.new.back_doors
    c.args.clocks.now _ c.split_at_mut-front_clocks.result.0.now c.serve_halves.new.front_clocks
    c.split_at_mut-front_clocks.result.1.now c.serve_halves.new.back_clocks
    (search rules) c.split_at_mut-front_seats.ensures.value
    c.split_at_mut-front_doors.ensures.value c.split_at_mut-front_clocks.ensures.value
    (search rules) (search rules) (search rules) c.serve_halves.ensures.front
    c.serve_halves.ensures.back
