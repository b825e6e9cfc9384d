use Rattle.std.proofs.Common.{◌≡◌, true, [], ◌∷◌, ap, subst}
use Rattle.link_model.specs.declared.call.Call.TheVariants.{Polled}
use Rattle.link_model.specs.Calls.{Tells, heard_of}
use Rattle.link_model.specs.Counts.{poll_failed}
use Rattle.user_core.specs.Hearing.{hearing_of}
use Rattle.user_talk.specs.Running.{world}
use Rattle.user_talk.specs.declared.rounds.TheConstants.{PIECE_OCTETS}
use Rattle.user_talk.proofs.Polled.{polls_on, unheard_ends}
use Rattle.user_talk.proofs.rounds.round.Goals as goal

pub returns-in-Some-clause-polls : goal.returns-in-Some-clause-polls
returns-in-Some-clause-polls g c =
    let heard = heard_of c.poll-poll.result c.poll-poll.new.into in
    polls_on g.L.Link.calls g.L.Link.faults g.C.Clock.readings
    g.E.EndRequest.answers g.O.Sink.written g.O.Sink.faults
    heard (hearing_of c.in-Some.heard) c.make_turn.result c.args.talk.now c.make_turn.new.talk
    c.args.link.now c.poll-poll.new.self c.args.clock.now c.args.end.now c.args.output.now
    (world c.make_turn.new.link c.make_turn.new.clock c.make_turn.new.end c.make_turn.new.output)
    c.in-Some.ensures.heard
    (subst (λ n. Tells (g.L.Link.calls c.args.link.now) (g.L.Link.calls c.poll-poll.new.self)
    (Polled n heard ∷ [])) c.requires.piece c.poll-poll.ensures.told) c.in-Some.ensures.octets
    (c.poll-poll.ensures.faults.kept (search c.in-Some.ensures.well)) c.make_turn.ensures

pub returns-in-None-clause-polls : goal.returns-in-None-clause-polls
returns-in-None-clause-polls g c =
    let into = c.poll-poll.new.into in
    let fails : poll_failed c.poll-poll.result ≡ true = ap poll_failed c.in-None.ensures.failed in
    unheard_ends g.L.Link.calls g.L.Link.faults g.C.Clock.readings
    g.E.EndRequest.answers g.O.Sink.written
    g.O.Sink.faults c.args.talk.now c.args.talk.now c.args.link.now c.poll-poll.new.self
    c.args.clock.now c.args.end.now c.args.output.now c.requires.going
    (subst (λ p. Tells (g.L.Link.calls c.args.link.now) (g.L.Link.calls c.poll-poll.new.self)
    (Polled PIECE_OCTETS (heard_of p into) ∷ [])) c.in-None.ensures.failed
    (subst (λ n. Tells (g.L.Link.calls c.args.link.now) (g.L.Link.calls c.poll-poll.new.self)
    (Polled n (heard_of c.poll-poll.result into) ∷ [])) c.requires.piece
    c.poll-poll.ensures.told))
    (c.poll-poll.ensures.faults.rose (search fails))
