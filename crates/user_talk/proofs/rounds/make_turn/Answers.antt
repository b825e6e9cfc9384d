use Rattle.std.proofs.Common.{◌≡◌, inl, inr, ⊎_elim, Err, ap, sym, subst}
use Rattle.user_core.specs.Hearing.{hearing_of}
use Rattle.user_talk.specs.Running.{world, Turns, WasLast}
use Rattle.user_talk.specs.declared.turn.Stop.TheVariants as stop
use Rattle.user_talk.proofs.Made.{made_on, stopped_on}
use Rattle.user_talk.proofs.rounds.make_turn.Goals as goal

pub returns-in-Ok : goal.returns-in-Ok
returns-in-Ok g c h before heard told octets same =
    let old = world c.args.link.now c.args.clock.now c.args.end.now c.args.output.now in
    let new = world c.turn.new.link c.read-reading.new.clock c.read-reading.new.end
    c.turn.new.output in
    subst (λ e. Turns g.L.Link.calls g.L.Link.faults g.C.Clock.readings
    g.E.EndRequest.answers g.O.Sink.written
    g.O.Sink.faults h e c.args.talk.now c.turn.new.self
    (world before c.args.clock.now c.args.end.now c.args.output.now) new) (sym c.end_of.ensures)
    (made_on g.L.Link.calls g.L.Link.faults g.C.Clock.readings
    g.E.EndRequest.answers g.O.Sink.written
    g.O.Sink.faults c.args.talk.now c.turn.new.self c.read-reading.result (hearing_of c.args.heard)
    c.in-Ok.turn.answers c.in-Ok.turn.status c.hears_close.result old new (record {
      state = c.in-Ok.ensures.state;
      told = c.in-Ok.ensures.told;
      counts = c.in-Ok.ensures.faults;
      reads = c.read-reading.ensures.told;
      printed = c.in-Ok.ensures.printed;
      kept = ⊎_elim (λ is. absurd cc) (λ same. same) c.in-Ok.ensures.kept;
    }) (sym c.in-Ok.ensures.status) c.hears_close.ensures h before heard told octets
    same)

pub returns-in-Err : goal.returns-in-Err
returns-in-Err g c h before heard told octets same =
    let old = world c.args.link.now c.args.clock.now c.args.end.now c.args.output.now in
    let new = world c.turn.new.link c.read-reading.new.clock c.read-reading.new.end
    c.turn.new.output in
    subst (λ e. WasLast g.L.Link.calls g.L.Link.faults g.C.Clock.readings
    g.E.EndRequest.answers g.O.Sink.written
    g.O.Sink.faults h e c.args.talk.now (world before c.args.clock.now c.args.end.now
    c.args.output.now) new)
    (sym c.end_at.ensures)
    (stopped_on g.L.Link.calls g.L.Link.faults g.C.Clock.readings
    g.E.EndRequest.answers g.O.Sink.written
    g.O.Sink.faults c.args.talk.now c.turn.new.self c.read-reading.result (hearing_of c.args.heard)
    c.in-Err.stop old new (record {
      link = c.in-Err.ensures.unheard;
      reads = c.read-reading.ensures.told;
      printed = c.in-Err.ensures.front;
      rose = λ is. c.in-Err.ensures.rose (ap (λ e. Err e) is);
      kept = ⊎_elim (λ is. inl (let same : c.in-Err.stop ≡ stop.WriteFault = cc in same))
          (λ same. inr same) c.in-Err.ensures.kept;
    }) h before heard told octets same)
