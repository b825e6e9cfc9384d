use Rattle.return_core.proofs.Longer.{stands_longer, looks_longer}
use Rattle.return_core.proofs.laws.a_delivery_stands_as_the_archive_grows.Goals as goal

pub returns-clause-stands : goal.returns-clause-stands
returns-clause-stands c = stands_longer

pub returns-clause-looks : goal.returns-clause-looks
returns-clause-looks c = λ d entries later from visits looks within.
    looks_longer entries later from d visits looks within
