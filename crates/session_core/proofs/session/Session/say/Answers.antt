use Rattle.std.proofs.Common.{sym, ◌∙◌}
use Rattle.session_core.proofs.Rounds.{said_by}
use Rattle.session_core.proofs.session.Session.say.Goals as goal

pub returns-then-may_speak-clause-said : goal.returns-then-may_speak-clause-said
returns-then-may_speak-clause-said g c =
    rw c.self.view_is at
    (said_by _ _ c.self.inside.door c.self.inside.feeder c.self.inside.standing _
    c.offer-answer.result (sym c.if-may_speak.true ∙ c.may_speak.ensures)
    c.offer-answer.ensures.told c.end_offer.ensures)
