use Rattle.return_core.specs.Mode.{answer_of}
use Rattle.return_core.proofs.Stands.{settles}
use Rattle.return_core.proofs.delivery.Delivery.settle.Goals as goal

pub returns-clause-stands : goal.returns-clause-stands
returns-clause-stands c = λ t entries rounds front now s.
    let law = c.places_are_counts.ensures in
    rw c.take.ensures (settles c.args.self.now t entries rounds front now (answer_of c.args.answer)
    (record {
      steps = λ more. law.steps t entries more s.some s.archive s.first;
      told = λ more. law.told t entries more s.some s.archive s.first;
    }) s)
