use Rattle.session_core.proofs.Truths.{on_ok}
use Rattle.session_core.proofs.Bare.{keeps_none}
use Rattle.session_core.proofs.session.Session.go_on.Goals as goal

pub returns-then-is_bare-clause-kept : goal.returns-then-is_bare-clause-kept
returns-then-is_bare-clause-kept c =
    on_ok c.rest.result
    (λ kept.
    keeps_none c.args.site.now c.args.self.now c.rest.new.self c.args.book.now c.args.reading
    (c.is_bare.ensures.service c.if-is_bare.true) (c.is_bare.ensures.active c.if-is_bare.true)
    (c.is_bare.ensures.idle c.if-is_bare.true) (c.is_bare.ensures.none c.if-is_bare.true) kept)
    c.rest.ensures.kept
