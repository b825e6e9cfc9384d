use Rattle.std.proofs.Common.{◌∙◌, ap, sym}
use Rattle.isp1_tml.specs.Given.{content_of}
use Rattle.user_core.specs.Dialogue.{heard}
use Rattle.user_core.specs.Hearing.{heard_unread}
use Rattle.user_core.proofs.Steps.{step, given, smaller}
use Rattle.user_core.proofs.dialogue.Dialogue.hear_all.Goals as goal

pub loop-message-smaller : goal.loop-message-smaller
loop-message-smaller c =
    smaller c.loop-message.messages c.next_message.new.self (content_of c.in-Ok-Some.message)
    (rw c.in-Ok-Some.field-0-is at c.in-Ok-Some.ensures.given) c.in-Ok-Some.ensures.after

pub loop-message-preserved : goal.loop-message-preserved
loop-message-preserved c =
    let task = c.args.task.now in
    let u = c.loop-message.messages in
    let v = c.next_message.new.self in
    let d = c.loop-message.self in
    let m = content_of c.in-Ok-Some.message in
    let is = rw c.in-Ok-Some.field-0-is at c.in-Ok-Some.ensures.given in
    record {
      talk = c.loop-message.invariant.talk
          ∙ step task c.args.now u v m d is c.in-Ok-Some.ensures.after
          ∙ ap (heard_unread task c.args.now v)
          (ap (λ place. heard task c.args.now place d m) (sym c.loop-message.invariant.place)
          ∙ sym c.in_ok-hear.ensures);
      given = c.loop-message.invariant.given ∙ given u v m is c.in-Ok-Some.ensures.after;
      place = c.place-place-in-Ok-Some.ensures;
    }
