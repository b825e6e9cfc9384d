use Rattle.std.proofs.Common.{arith, Some}
use Rattle.session_core.specs.Course as course
use Rattle.session_core.specs.SessionState.{told_now}
use Rattle.session_core.proofs.Fates.{spent_rare, told_keeps}
use Rattle.session_core.proofs.session.Session.take_step.Goals as goal

pub returns-clause-memory : goal.returns-clause-memory
returns-clause-memory c =
    let kept = told_keeps course.is_spent spent_rare c.args.site.now c.args.self.now
    (Some (told_now c.args.site.now c.args.self.now c.args.book.now c.args.reading)) in
    grind (arith, kept)
