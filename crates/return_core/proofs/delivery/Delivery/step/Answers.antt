use Rattle.frame_select.specs.Glimpse.{glimpse_of}
use Rattle.return_core.proofs.Stands.{steps}
use Rattle.return_core.proofs.delivery.Delivery.step.Goals as goal

pub returns-clause-stands : goal.returns-clause-stands
returns-clause-stands c = λ t entries rounds s look.
    let law = c.places_are_counts.ensures in
    rw c.advance.ensures (steps c.args.self.now t entries rounds (glimpse_of c.args.glimpse)
    c.args.now (record {
      steps = λ more. law.steps t entries more s.some s.archive s.first;
      told = λ more. law.told t entries more s.some s.archive s.first;
    }) s look)
