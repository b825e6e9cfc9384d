use Rattle.return_core.proofs.Stands.{steps}
use Rattle.return_core.proofs.laws.a_step_offers_what_is_due.Goals as goal

pub returns : goal.returns
returns c = λ course t entries rounds g now s later look.
    let law = c.places_are_counts.ensures in
    steps course t entries rounds g now (record {
      steps = λ more. law.steps t entries more s.some s.archive s.first;
      told = λ more. law.told t entries more s.some s.archive s.first;
    }) s (record { shown = look; later = later })
