use Rattle.user_talk.specs.Running.{world}
use Rattle.user_service.proofs.Streaming.{streams_of}
use Rattle.user_service.proofs.sending.hold.Goals as goal

pub returns-clause-streams : goal.returns-clause-streams
returns-clause-streams g c =
    streams_of g.L.Link.calls g.L.Link.faults g.C.Clock.readings
    g.E.EndRequest.answers g.O.Sink.written g.O.Sink.faults
    c.lines_in_order.ensures c.args.task c.args.turns c.talk.result
    (world c.args.link.now c.args.clock.now c.args.end.now c.args.output.now)
    (world c.talk.new.link c.talk.new.clock c.talk.new.end c.talk.new.output) c.requires.invokes
    c.talk.ensures
