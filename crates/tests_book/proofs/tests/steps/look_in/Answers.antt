use Rattle.tests_book.proofs.Counting.{ninety_four}
use Rattle.tests_book.proofs.tests.steps.look_in.Goals as goal

pub returns : goal.returns
returns g c = ninety_four (λ seen. seen) _ _ _ _ c.look_counted.ensures.steps
