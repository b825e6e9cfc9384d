use Rattle.session_turns.specs.Rounds.{worker}
use Rattle.session_turns.proofs.Running.{round_by, broke_by, not_ended}
use Rattle.session_turns.proofs.rounds.round.Goals as goal

pub step-requires-clause-going : goal.step-requires-clause-going
step-requires-clause-going g c =
    not_ended c.args.session.now c.listen.new.self c.requires.going c.listen.ensures.ended

pub returns-in_default-clause-broke : goal.returns-in_default-clause-broke
returns-in_default-clause-broke g c =
    broke_by g.L.Link.calls g.L.Link.faults g.C.Clock.readings c.args.station.now
    c.args.site.now c.read-reading.result c.args.session.now c.listen.new.self
    (worker c.args.link.now c.args.clock.now c.args.pass.now)
    (worker c.listen.new.link c.read-reading.new.clock c.step.new.pass) c.listen.ensures.lists
    c.listen.ensures.faults
    (c.gains_compose.ensures.left c.args.station.now c.args.pass.now c.step.new.pass
    c.requires.ready c.requires.left c.in_default.ensures.left) c.read-reading.ensures.told

pub returns-clause-ran : goal.returns-clause-ran
returns-clause-ran g c =
    let once = c.in-Ok.ensures.made in
    round_by g.L.Link.calls g.L.Link.faults g.C.Clock.readings c.args.station.now
    c.args.site.now c.read-reading.result c.args.session.now c.listen.new.self
    c.step.new.session c.speak.new.self
    (worker c.args.link.now c.args.clock.now c.args.pass.now)
    (worker c.speak.new.link c.read-reading.new.clock c.step.new.pass) c.listen.new.link
    c.listen.ensures.lists c.listen.ensures.faults once c.speak.ensures.lists
    c.speak.ensures.faults
    (c.gains_compose.ensures.one c.args.station.now once.call c.args.pass.now c.step.new.pass
    c.requires.ready c.requires.left once.makes) c.read-reading.ensures.told
