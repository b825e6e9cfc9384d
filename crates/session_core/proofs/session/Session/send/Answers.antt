use Rattle.std.proofs.Common.{sym, ◌∙◌}
use Rattle.session_core.proofs.Rounds.{sent_by}
use Rattle.session_core.proofs.session.Session.send.Goals as goal

pub returns-then-may_send-clause-sent : goal.returns-then-may_send-clause-sent
returns-then-may_send-clause-sent g c =
    rw c.self.view_is at
    (sent_by _ _ c.self.inside.door c.self.inside.feeder c.self.inside.standing _
    c.send-answer.result (sym c.if-may_send.true ∙ c.may_send.ensures)
    c.send-answer.ensures.told c.end_send.ensures)
