use Rattle.std.proofs.Common.{refl}
use Rattle.session_turns.specs.Rounds.{worker}
use Rattle.session_turns.specs.Serving.{began_at}
use Rattle.session_turns.proofs.Serving.{served_by, served_none}
use Rattle.session_turns.proofs.connection.serve_session.Goals as goal

pub returns-in-Ok-clause-served : goal.returns-in-Ok-clause-served
returns-in-Ok-clause-served g c =
    served_by g.L.Link.calls g.L.Link.faults g.C.Clock.readings c.args.station.now
    c.args.site.now c.args.door c.args.draw c.readings_compose.ensures.both c.rounds.result
    c.read-entered.result c.in-Ok.session c.rounds.new.session c.args.link.now c.args.pass.now
    c.args.clock.now c.read-entered.new.clock
    (worker c.rounds.new.link c.rounds.new.clock c.rounds.new.pass)
    (c.in-Ok.ensures.lists
    (began_at c.args.site.now c.args.door c.args.draw c.read-entered.result) refl refl refl)
    c.in-Ok.ensures.going c.read-entered.ensures.told c.rounds.ensures.ran

pub returns-in-Err-clause-served : goal.returns-in-Err-clause-served
returns-in-Err-clause-served g c =
    served_none g.L.Link.calls g.L.Link.faults g.C.Clock.readings c.args.station.now
    c.args.site.now c.args.door c.args.draw c.readings_compose.ensures.both
    c.read-entered.result (worker c.args.link.now c.args.clock.now c.args.pass.now)
    (worker c.args.link.now c.read-entered.new.clock c.args.pass.now) refl
    (c.gains_compose.ensures.none c.args.station.now c.args.pass.now c.requires.ready)
    c.read-entered.ensures.told
