use Rattle.std.proofs.Common.{ap}
use Rattle.station_book.specs.State.{State}
use Rattle.station_book.proofs.Counting.{steps_seen}
use Rattle.station_book.proofs.book.Book.look_counted.Goals as goal

pub returns-clause-steps : goal.returns-clause-steps
returns-clause-steps g c =
    steps_seen _ c.self.inside.entries _ _ _ (ap (λ (s : State). s.published) c.self.view_is)
    c.glimpse.ensures.steps
