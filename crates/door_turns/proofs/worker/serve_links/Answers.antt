use Rattle.std.proofs.Common.{refl, rules}
use Rattle.door_turns.specs.Visits.{at_door}
use Rattle.door_turns.proofs.Links.{going_none, going_on, served_all, served_none, served_failed}
use Rattle.door_turns.proofs.Links.{served_few, served_spent, served_memory}
use Rattle.door_turns.proofs.worker.serve_links.Goals as goal

pub links-init : goal.links-init
links-init g c = going_none g.G.Door.shown g.G.Door.faults g.G.Link.Link.calls g.G.Link.Link.faults
    g.C.Clock.readings c.args.station.now c.args.site.now c.args.number c.args.draw c.args.links
    (c.gains_compose.ensures.none c.args.station.now) (c.gains_compose.ensures.both c.args.station.now)
    (at_door c.args.door.now c.args.clock.now c.args.pass.now)
    c.requires.ready c.requires.left

pub returns-then-left-lt3-clause-served : goal.returns-then-left-lt3-clause-served
returns-then-left-lt3-clause-served g c = served_few g.G.Door.shown g.G.Door.faults g.G.Link.Link.calls g.G.Link.Link.faults
    g.C.Clock.readings c.args.station.now c.args.site.now c.args.number c.args.draw c.args.links
    (c.gains_compose.ensures.none c.args.station.now) (c.gains_compose.ensures.both c.args.station.now)
    c.links.report _
    (at_door c.args.door.now c.args.clock.now c.args.pass.now)
    (at_door c.links.door c.links.clock c.links.pass) c.links.invariant (search rules) (search rules) refl

pub links-preserved : goal.links-preserved
links-preserved g c = going_on g.G.Door.shown g.G.Door.faults g.G.Link.Link.calls g.G.Link.Link.faults
    g.C.Clock.readings c.args.station.now c.args.site.now c.args.number c.args.draw c.args.links
    (c.gains_compose.ensures.none c.args.station.now) (c.gains_compose.ensures.both c.args.station.now)
    c.links.report _
    (at_door c.args.door.now c.args.clock.now c.args.pass.now)
    (at_door c.links.door c.links.clock c.links.pass)
    (at_door c.make_visit.new.door c.make_visit.new.clock c.make_visit.new.pass)
    c.links.invariant (search rules) c.in-Served.ensures.came (search rules) refl

pub returns-in-Spent-clause-served : goal.returns-in-Spent-clause-served
returns-in-Spent-clause-served g c = served_spent g.G.Door.shown g.G.Door.faults g.G.Link.Link.calls g.G.Link.Link.faults
    g.C.Clock.readings c.args.station.now c.args.site.now c.args.number c.args.draw c.args.links
    (c.gains_compose.ensures.none c.args.station.now) (c.gains_compose.ensures.both c.args.station.now)
    c.links.report _
    (at_door c.args.door.now c.args.clock.now c.args.pass.now)
    (at_door c.links.door c.links.clock c.links.pass)
    (at_door c.make_visit.new.door c.make_visit.new.clock c.make_visit.new.pass)
    c.links.invariant (search rules) c.in-Spent.ensures.came refl

pub returns-in-Memory-clause-served : goal.returns-in-Memory-clause-served
returns-in-Memory-clause-served g c = served_memory g.G.Door.shown g.G.Door.faults g.G.Link.Link.calls g.G.Link.Link.faults
    g.C.Clock.readings c.args.station.now c.args.site.now c.args.number c.args.draw c.args.links
    (c.gains_compose.ensures.none c.args.station.now) (c.gains_compose.ensures.both c.args.station.now)
    c.links.report _
    (at_door c.args.door.now c.args.clock.now c.args.pass.now)
    (at_door c.links.door c.links.clock c.links.pass)
    (at_door c.make_visit.new.door c.make_visit.new.clock c.make_visit.new.pass)
    c.links.invariant (search rules) c.in-Memory.ensures.came refl

pub returns-in-NoMore-clause-served : goal.returns-in-NoMore-clause-served
returns-in-NoMore-clause-served g c = served_none g.G.Door.shown g.G.Door.faults g.G.Link.Link.calls g.G.Link.Link.faults
    g.C.Clock.readings c.args.station.now c.args.site.now c.args.number c.args.draw c.args.links
    (c.gains_compose.ensures.none c.args.station.now) (c.gains_compose.ensures.both c.args.station.now)
    c.links.report
    (at_door c.args.door.now c.args.clock.now c.args.pass.now)
    (at_door c.links.door c.links.clock c.links.pass)
    (at_door c.make_visit.new.door c.make_visit.new.clock c.make_visit.new.pass)
    c.links.invariant (search rules) c.in-NoMore.ensures.came

pub returns-in-Failed-clause-served : goal.returns-in-Failed-clause-served
returns-in-Failed-clause-served g c = served_failed g.G.Door.shown g.G.Door.faults g.G.Link.Link.calls g.G.Link.Link.faults
    g.C.Clock.readings c.args.station.now c.args.site.now c.args.number c.args.draw c.args.links
    (c.gains_compose.ensures.none c.args.station.now) (c.gains_compose.ensures.both c.args.station.now)
    c.links.report _
    (at_door c.args.door.now c.args.clock.now c.args.pass.now)
    (at_door c.links.door c.links.clock c.links.pass)
    (at_door c.make_visit.new.door c.make_visit.new.clock c.make_visit.new.pass)
    c.links.invariant (search rules) c.in-Failed.ensures.came refl

pub returns-clause-served : goal.returns-clause-served
returns-clause-served g c = served_all g.G.Door.shown g.G.Door.faults g.G.Link.Link.calls g.G.Link.Link.faults
    g.C.Clock.readings c.args.station.now c.args.site.now c.args.number c.args.draw c.args.links
    (c.gains_compose.ensures.none c.args.station.now) (c.gains_compose.ensures.both c.args.station.now)
    c.links.report
    (at_door c.args.door.now c.args.clock.now c.args.pass.now)
    (at_door c.links.door c.links.clock c.links.pass) c.links.invariant (search rules)
