use Rattle.std.proofs.Common.{subst}
use Rattle.session_core.specs.SessionState.{SessionState}
use Rattle.session_services.specs.Whole.{AreWhole}
use Rattle.session_core.proofs.Rounds.{listened_by}
use Rattle.session_core.proofs.Listed.{goes_listen}
use Rattle.session_core.proofs.Fates.{rests_listened}
use Rattle.session_core.proofs.session.Session.listen.Goals as goal

pub returns-clause-lists : goal.returns-clause-lists
returns-clause-lists g c =
    goes_listen c.is_worked_out.ensures c.any_pieces.ensures.begins _ _ _ _
    (subst (λ (v : SessionState). AreWhole v.standing.block) c.self.view_is
    c.holds_whole_messages.ensures.block)
    (listened_by c.is_worked_out.ensures _ _ _ _ _ _ c.clear_way.ensures.waited
    c.poll.ensures.polled)

pub returns-clause-rests : goal.returns-clause-rests
returns-clause-rests g c =
    rests_listened _ _ _ _ _ _ c.clear_way.ensures.waited c.poll.ensures.polled
