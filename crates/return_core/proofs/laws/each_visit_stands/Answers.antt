use Rattle.return_core.proofs.Visits.{visits_stand}
use Rattle.return_core.proofs.laws.each_visit_stands.Goals as goal

pub returns : goal.returns
returns c =
    let law = c.places_are_counts.ensures in
    visits_stand (λ d t entries rounds s. record {
      steps = λ more. law.steps t entries more s.some s.archive s.first;
      told = λ more. law.told t entries more s.some s.archive s.first;
    })
