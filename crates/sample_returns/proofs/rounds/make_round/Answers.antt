use Rattle.std.proofs.Common.{[], ◌∷◌}
use Rattle.return_core.specs.Mode.{answer_of}
use Rattle.sample_returns.specs.Rounds.{visit_at}
use Rattle.sample_returns.proofs.rounds.make_round.Goals as goal

pub returns-in_err-glimpse-clause-stands : goal.returns-in_err-glimpse-clause-stands
returns-in_err-glimpse-clause-stands c = λ t entries rounds stood looks going.
    c.each_visit_stands.ensures c.args.delivery.now t entries rounds
    (visit_at c.args.book.now c.args.delivery.now c.args.now (answer_of c.args.answer) ∷ []) stood
    looks going

pub returns-clause-stands : goal.returns-clause-stands
returns-clause-stands c = λ t entries rounds stood looks going.
    c.each_visit_stands.ensures c.args.delivery.now t entries rounds
    (visit_at c.args.book.now c.args.delivery.now c.args.now (answer_of c.args.answer) ∷ []) stood
    looks going
