use Rattle.std.proofs.Common.{sym, ◌∙◌}
use Rattle.session_core.proofs.Rounds.{polled_by}
use Rattle.session_core.proofs.session.Session.poll.Goals as goal

pub returns-then-may_poll-clause-polled : goal.returns-then-may_poll-clause-polled
returns-then-may_poll-clause-polled g c =
    rw c.self.view_is at
    (polled_by _ _ c.self.inside.door _ _ _ _ c.holds_message.result c.hear.ensures.heard
    (sym c.if-may_poll.true ∙ c.may_poll.ensures) c.holds_message.ensures)
