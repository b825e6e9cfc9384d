use Rattle.std.proofs.Common.{[], sym, ap, subst, ◌∙◌}
use Rattle.std.proofs.lemmas.Bool.{true≢false}
use Rattle.script_store.specs.Store.{Recorded}
use Rattle.station_law.specs.State.{State}
use Rattle.script_store.specs.Stopped.{HoldsAlone}
use Rattle.station_law.specs.Standing.{Seen}
use Rattle.station_law.specs.Lines.{step}
use Rattle.station_law.proofs.Moments.{keeps, stays, crash_gives}
use Rattle.station_law.proofs.Following.{other_line, offer_line_is, crash_line_is}
use Rattle.station_law.proofs.Telling.{does_as}
use Rattle.station_law.proofs.world.World.step.Goals as goal

pub returns-in-Offer-clause-written : goal.returns-in-Offer-clause-written
returns-in-Offer-clause-written g c = (does_as (λ state. offer_line_is state c.args.line.now
    c.in-Offer.entry c.in-Offer.is c.requires.valid) c.offer_line.ensures.does).written

pub returns-in-Crash-clause-written : goal.returns-in-Crash-clause-written
returns-in-Crash-clause-written g c = (does_as (λ state. crash_line_is state c.args.line.now
    c.in-Crash.k c.in-Crash.pick c.pick_of.result c.in-Crash.is c.pick_of.ensures)
    c.crash_line.ensures.does).written

pub returns-in-Crash-clause-stopped : goal.returns-in-Crash-clause-stopped
returns-in-Crash-clause-stopped g c = (does_as (λ state. crash_line_is state c.args.line.now
    c.in-Crash.k c.in-Crash.pick c.pick_of.result c.in-Crash.is c.pick_of.ensures)
    c.crash_line.ensures.does).stopped

pub returns-in-Crash-clause-images : goal.returns-in-Crash-clause-images
returns-in-Crash-clause-images g c = λ ready.
    keeps c.args.self.now _ (λ (s : State). (step s c.args.line.now).given) []
    (c.crash_line.ensures.images (subst (λ (r : Recorded). HoldsAlone r.disk r.state.published)
    (ap (λ (seen : Seen). seen.recorder) c.self.view_is)
    (c.is_spent.ensures.alone c.if-is_spent.false)))
    (λ state stands. crash_gives c.args.line.now c.in-Crash.k c.in-Crash.pick c.pick_of.result
    c.in-Crash.is c.pick_of.ensures state)

pub returns-in_default : goal.returns-in_default
returns-in_default g c =
    let does = does_as (λ state. other_line state c.args.line.now c.in_default.not-Skip
    c.in_default.not-Offer c.in_default.not-Desk c.in_default.not-Clock c.in_default.not-Crash
    c.in_default.not-Fault) c.other_line.ensures.does in
    record {
      written = does.written;
      done = does.done;
      next = does.next;
      write_fault = does.write_fault;
      stopped = does.stopped;
      images = λ ready. stays c.args.self.now _ (λ (s : State). (step s c.args.line.now).given)
          c.other_line.ensures.disk (subst (λ (r : Recorded). HoldsAlone r.disk r.state.published)
          (ap (λ (seen : Seen). seen.recorder) c.self.view_is)
          (c.is_spent.ensures.alone c.if-is_spent.false));
      spent = λ is. absurd (true≢false (sym is
          ∙ sym (ap (λ (seen : Seen). seen.recorder.is_spent) c.self.view_is)
          ∙ sym c.is_spent.ensures.spent ∙ c.if-is_spent.false));
    }
