use Rattle.std.proofs.Common.{ap, subst, ◌∙◌}
use Rattle.isp1_tml.specs.Given.{content_of}
use Rattle.user_lines.specs.Lines.{lines_of, bad_line}
use Rattle.user_lines.specs.Shown.{Shown, shown_of}
use Rattle.user_lines.proofs.Steps.{step, left, bad, smaller}
use Rattle.user_lines.proofs.Written.{Behind, step_on, stopped_by, ends_with}
use Rattle.user_lines.proofs.shown.put_lines.Goals as goal

pub returns-in_err-put_message-clause-written : goal.returns-in_err-put_message-clause-written
returns-in_err-put_message-clause-written g c =
    let u = c.loop-message.messages in
    let v = c.next_message.new.self in
    let start = g.S.Sink.written c.args.output.now in
    let now = g.S.Sink.written c.loop-message.output in
    let f = g.S.Sink.faults c.args.output.now in
    let h = g.S.Sink.faults c.loop-message.output in
    let whole = (shown_of c.args.service c.args.messages.now).text in
    let is =
    step c.args.service u v (content_of c.in-Ok-Some.message) c.in-Some.told
    (rw c.in-Ok-Some.field-0-is at c.in-Ok-Some.ensures.given)
    c.in-Ok-Some.ensures.after c.in-Some.ensures in
    stopped_by start now (g.S.Sink.written c.put_message.new.output) f h
    (g.S.Sink.faults c.put_message.new.output) whole
    (lines_of c.in-Some.told) (shown_of c.args.service v).text c.in_err-put_message.field-0.0
    c.from_residual.result c.from_residual.ensures.1
    (subst (λ text. Behind start now f h whole text) (ap (λ (r : Shown). r.text) is)
    c.loop-message.invariant.text)
    c.in_err-put_message.ensures

pub loop-message-smaller : goal.loop-message-smaller
loop-message-smaller g c =
    smaller c.loop-message.messages c.next_message.new.self (content_of c.in-Ok-Some.message)
    (rw c.in-Ok-Some.field-0-is at c.in-Ok-Some.ensures.given) c.in-Ok-Some.ensures.after

pub loop-message-preserved : goal.loop-message-preserved
loop-message-preserved g c =
    let u = c.loop-message.messages in
    let v = c.next_message.new.self in
    let start = g.S.Sink.written c.args.output.now in
    let now = g.S.Sink.written c.loop-message.output in
    let f = g.S.Sink.faults c.args.output.now in
    let h = g.S.Sink.faults c.loop-message.output in
    let whole = (shown_of c.args.service c.args.messages.now).text in
    let is =
    step c.args.service u v (content_of c.in-Ok-Some.message) c.in-Some.told
    (rw c.in-Ok-Some.field-0-is at c.in-Ok-Some.ensures.given)
    c.in-Ok-Some.ensures.after c.in-Some.ensures in
    record {
      text = step_on start now (g.S.Sink.written c.put_message.new.output) f h
          (g.S.Sink.faults c.put_message.new.output) whole
          (lines_of c.in-Some.told) (shown_of c.args.service v).text
          (subst (λ text. Behind start now f h whole text) (ap (λ (r : Shown). r.text) is)
          c.loop-message.invariant.text)
          c.in_ok-put_message.ensures;
      bad = c.loop-message.invariant.bad ∙ ap (λ (r : Shown). r.bad) is;
      told = c.loop-message.invariant.told
          ∙ left c.args.service u v (content_of c.in-Ok-Some.message) c.in-Some.told
          (rw c.in-Ok-Some.field-0-is at c.in-Ok-Some.ensures.given)
          c.in-Ok-Some.ensures.after c.in-Some.ensures;
      place = c.place-place-in-Ok-Some.ensures;
    }

pub returns-in_default-of-clause-written : goal.returns-in_default-of-clause-written
returns-in_default-of-clause-written g c =
    let u = c.loop-message.messages in
    let v = c.next_message.new.self in
    let start = g.S.Sink.written c.args.output.now in
    let now = g.S.Sink.written c.loop-message.output in
    let f = g.S.Sink.faults c.args.output.now in
    let h = g.S.Sink.faults c.loop-message.output in
    let whole = (shown_of c.args.service c.args.messages.now).text in
    let is =
    bad c.args.service u v (content_of c.in-Ok-Some.message)
    (rw c.in-Ok-Some.field-0-is at c.in-Ok-Some.ensures.given)
    c.in-Ok-Some.ensures.after (rw c.in_default-of.is at c.of.ensures) in
    ends_with start now (g.S.Sink.written c.end_bad.new.output) f h
    (g.S.Sink.faults c.end_bad.new.output) whole
    (bad_line u.place) c.end_bad.result
    (subst (λ text. Behind start now f h whole text) (ap (λ (r : Shown). r.text) is)
    c.loop-message.invariant.text)
    (rw c.loop-message.invariant.place at c.end_bad.ensures.written)
