use Rattle.archive_terms.proofs.Agreeing.{same_run}
use Rattle.archive_terms.proofs.laws.places_are_counts.Goals as goal

pub returns-clause-steps : goal.returns-clause-steps
returns-clause-steps c = λ t entries rounds some archive first rise.
    (same_run t entries rounds some archive first rise).steps

pub returns-clause-told : goal.returns-clause-told
returns-clause-told c = λ t entries rounds some archive first rise.
    (same_run t entries rounds some archive first rise).told
