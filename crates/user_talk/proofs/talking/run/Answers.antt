use Rattle.std.proofs.Common.{◌≡◌, None, refl, subst}
use Rattle.user_talk.specs.Running.{world, WentOn, WasLast}
use Rattle.user_talk.proofs.Octets.{none_are}
use Rattle.user_talk.proofs.Polled.{first_ends, first_goes}
use Rattle.user_talk.proofs.Told.{tells_none}
use Rattle.user_talk.proofs.talking.run.Goals as goal

pub returns-in-Some : goal.returns-in-Some
returns-in-Some g c =
    let old = world c.args.link.now c.args.clock.now c.args.end.now c.args.output.now in
    let new = world c.make_turn.new.link c.make_turn.new.clock c.make_turn.new.end
    c.make_turn.new.output in
    first_ends g.L.Link.calls g.L.Link.faults g.C.Clock.readings
    g.E.EndRequest.answers g.O.Sink.written
    g.O.Sink.faults c.args.task c.args.turns c.in-Some.over old new
    (subst (λ s. WasLast g.L.Link.calls g.L.Link.faults g.C.Clock.readings
    g.E.EndRequest.answers g.O.Sink.written
    g.O.Sink.faults None c.in-Some.over s old new) c.new-talk.ensures
    (c.in-Some.ensures None c.args.link.now refl (tells_none (g.L.Link.calls c.args.link.now))
    none_are refl))

pub rounds-requires-after_bounds : goal.rounds-requires-after_bounds
rounds-requires-after_bounds g c =
    let goes : c.make_turn.new.talk.user.course.status ≡ None =
    (c.in-None.ensures None c.args.link.now refl (tells_none (g.L.Link.calls c.args.link.now))
    none_are refl).goes in
    search goes

pub returns : goal.returns
returns g c =
    let old = world c.args.link.now c.args.clock.now c.args.end.now c.args.output.now in
    let mid = world c.make_turn.new.link c.make_turn.new.clock c.make_turn.new.end
    c.make_turn.new.output in
    let new = world c.rounds.new.link c.rounds.new.clock c.rounds.new.end c.rounds.new.output in
    first_goes g.L.Link.calls g.L.Link.faults g.C.Clock.readings
    g.E.EndRequest.answers g.O.Sink.written
    g.O.Sink.faults c.args.task c.args.turns c.rounds.result c.make_turn.new.talk old mid new
    (subst (λ s. WentOn g.L.Link.calls g.L.Link.faults g.C.Clock.readings
    g.E.EndRequest.answers g.O.Sink.written
    g.O.Sink.faults None s c.make_turn.new.talk old mid) c.new-talk.ensures
    (c.in-None.ensures None c.args.link.now refl (tells_none (g.L.Link.calls c.args.link.now))
    none_are refl)) c.rounds.ensures
