use Rattle.session_core.proofs.Truths.{on_ok_both}
use Rattle.session_core.proofs.Listed.{goes_step}
use Rattle.session_core.proofs.Fates.{faulty, faulty_rare, told_keeps, told_blocks}
use Rattle.session_core.proofs.session.Session.step.Goals as goal

pub returns-clause-lists : goal.returns-clause-lists
returns-clause-lists c =
    on_ok_both c.take_step.result
    (λ is kept. record {
      book_is = is;
      failed = rw kept (told_keeps faulty faulty_rare c.args.site.now c.args.self.now _);
      blocked = rw kept (told_blocks c.args.site.now c.args.self.now _);
      stands =
          goes_step c.is_worked_out.ensures c.any_pieces.ensures.gives c.args.site.now
          c.args.self.now c.take_step.new.self c.args.book.now c.args.reading kept;
    })
    c.take_step.ensures.book c.take_step.ensures.kept
