use Rattle.std.proofs.Common.{sym, ◌∙◌}
use Rattle.session_core.proofs.Rounds.{waited_by}
use Rattle.session_core.proofs.session.Session.clear_way.Goals as goal

pub returns-then-waits-clause-waited : goal.returns-then-waits-clause-waited
returns-then-waits-clause-waited g c =
    rw c.self.view_is at
    (waited_by _ _ c.self.inside.door c.self.inside.feeder c.self.inside.standing _ _
    c.offer-answer.result (sym c.if-waits.true ∙ c.waits-waits.ensures) c.begin_round.ensures
    c.offer-answer.ensures.told c.end_wait.ensures)
