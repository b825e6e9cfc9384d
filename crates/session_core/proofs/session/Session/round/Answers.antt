use Rattle.session_core.specs.Outcome.{is_blocked, is_left}
use Rattle.session_core.proofs.Listed.{goes_round}
use Rattle.session_core.proofs.Fates.{both_count}
use Rattle.session_core.proofs.Stalls.{round_stalls, spent_uncalled}
use Rattle.session_core.proofs.session.Session.round.Goals as goal

pub returns-clause-lists : goal.returns-clause-lists
returns-clause-lists g c =
    goes_round c.args.site.now _ _ _ c.args.book.now c.step.new.book c.args.reading
    c.args.self.now c.listen.new.self c.step.new.self c.speak.new.self c.listen.ensures.lists
    c.listen.ensures.ended c.in_ok-step.ensures.lists c.speak.ensures.lists

pub returns-clause-faults : goal.returns-clause-faults
returns-clause-faults g c =
    both_count _ _ _ _ _ _ c.listen.ensures.faults
    (rw c.in_ok-step.ensures.lists.failed at c.speak.ensures.faults)

pub returns-clause-stalls : goal.returns-clause-stalls
returns-clause-stalls g c =
    round_stalls (is_blocked c.listen.new.self) (is_blocked c.step.new.self)
    (is_blocked c.speak.new.self) (is_left c.speak.new.self) _ _ _ c.listen.ensures.stalls
    c.in_ok-step.ensures.lists.blocked c.speak.ensures.blocked c.speak.ensures.stalls

pub returns-in_err-step-clause-spent : goal.returns-in_err-step-clause-spent
returns-in_err-step-clause-spent g c =
    spent_uncalled _ _ _ _ _ _ c.args.self.now c.listen.new.self c.listen.ensures.rests
    c.listen.ensures.faults c.listen.ensures.stalls c.listen.ensures.waits
