use Rattle.std.proofs.Common.{refl}
use Rattle.return_core.proofs.Stands.{blocked_stands, not_due_stands, nothing_done}
use Rattle.return_core.proofs.laws.rounds_without_an_offer.Goals as goal

pub returns-clause-blocked : goal.returns-clause-blocked
returns-clause-blocked c = blocked_stands

pub returns-clause-not_due : goal.returns-clause-not_due
returns-clause-not_due c = not_due_stands

pub returns-clause-nothing_done : goal.returns-clause-nothing_done
returns-clause-nothing_done c = λ t entries rounds front now goes.
    (nothing_done t entries rounds _ goes refl, nothing_done t entries rounds _ goes refl)
