use Rattle.std.proofs.Common.{◌≡◌, arith, subst}
use Rattle.user_talk.specs.Running.{world, GoesOn}
use Rattle.user_talk.proofs.Polled.{ends_more, spent}
use Rattle.user_talk.proofs.rounds.rounds.Goals as goal

pub returns-in-Some : goal.returns-in-Some
returns-in-Some g c =
    ends_more g.L.Link.calls g.L.Link.faults g.C.Clock.readings
    g.E.EndRequest.answers g.O.Sink.written
    g.O.Sink.faults c.loop.counter c.args.turns c.in-Some.over c.args.talk.now c.loop.talk
    (world c.args.link.now c.args.clock.now c.args.end.now c.args.output.now)
    (world c.loop.link c.loop.clock c.loop.end c.loop.output)
    (world c.round.new.link c.round.new.clock c.round.new.end c.round.new.output)
    c.loop.invariant.goes
    (omega (arith, c.loop-test.true)) c.in-Some.ensures.polls

pub returns : goal.returns
returns g c =
    let old = world c.args.link.now c.args.clock.now c.args.end.now c.args.output.now in
    let new = world c.loop.link c.loop.clock c.loop.end c.loop.output in
    let all : c.loop.counter ≡ c.args.turns = omega arith in
    spent g.L.Link.calls g.L.Link.faults g.C.Clock.readings
    g.E.EndRequest.answers g.O.Sink.written g.O.Sink.faults
    c.args.turns c.args.talk.now c.loop.talk old new
    (subst (λ n. GoesOn g.L.Link.calls g.L.Link.faults g.C.Clock.readings
    g.E.EndRequest.answers g.O.Sink.written
    g.O.Sink.faults n c.args.talk.now c.loop.talk old new) all c.loop.invariant.goes)
