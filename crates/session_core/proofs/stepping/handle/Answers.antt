use Rattle.std.proofs.Common.{◌≡◌, ap, ◌∙◌}
use Rattle.isp1_tml.specs.Given.{content_of}
use Rattle.station_book.specs.History.{after}
use Rattle.session_services.specs.Inquiry.{Inquiry, call_of, inquiry_of, replied_of}
use Rattle.session_core.specs.Steps.{said_to}
use Rattle.session_core.specs.Seen.{said_of}
use Rattle.session_core.proofs.Asks.{asked_by_message, led_by_message, told_by_message}
use Rattle.session_core.proofs.stepping.handle.Goals as goal

pub returns-clause-acts : goal.returns-clause-acts
returns-clause-acts c =
    let site = c.args.asking.site.now in
    let s = c.args.standing.now in
    let content = content_of c.args.message in
    let said_so : said_of c.of-said.result ≡ said_to site s content =
    rw (c.service-service.ensures, c.state.ensures) at c.of-said.ensures in
    let asked =
    asked_by_message site s content (said_of c.of-said.result) c.judge-step.result
    c.places_of-places.result c.judge-step.new.self c.stays_running.result
    (inquiry_of c.in_ok-asked.asked) (inquiry_of c.with_want-ask.result) said_so
    c.judge-step.ensures.step c.places_of-places.ensures c.in_ok-asked.ensures
    c.stays_running.ensures c.judge-step.ensures.after c.with_want-ask.ensures in
    record {
      book =
          c.in_ok-reply.ensures.after
          ∙ ap
          (λ (ask : Inquiry).
          after c.args.book.now (call_of c.args.asking.door c.args.asking.reading ask))
          asked;
      standing =
          led_by_message site s _ content (said_of c.of-said.result) c.judge-step.result
          (inquiry_of c.with_want-ask.result) (replied_of c.in_ok-reply.reply) c.args.asking.door
          c.args.asking.reading c.args.book.now said_so c.judge-step.ensures.step asked
          c.requires.now c.in_ok-reply.ensures.reply
          (rw c.judge-step.ensures.after at c.conclude.ensures);
      told_is =
          told_by_message site s content (inquiry_of c.with_want-ask.result)
          (replied_of c.in_ok-reply.reply) c.args.asking.door c.args.asking.reading
          c.args.book.now asked c.requires.now c.in_ok-reply.ensures.reply;
    }
