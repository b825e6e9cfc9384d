use Rattle.tests_book.proofs.Counting.{ninety_four}
use Rattle.tests_book.proofs.tests.steps.answer_in.Goals as goal

pub returns : goal.returns
returns g c = ninety_four (λ r. r.1) _ _ _ _ c.answer_counted.ensures.steps
