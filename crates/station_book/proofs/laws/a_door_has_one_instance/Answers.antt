use Rattle.station_book.proofs.Bound.{one_instance, one_door}
use Rattle.station_book.proofs.laws.a_door_has_one_instance.Goals as goal

pub returns-clause-instances : goal.returns-clause-instances
returns-clause-instances c = λ o h door i j a b. one_instance o h door i j a b

pub returns-clause-doors : goal.returns-clause-doors
returns-clause-doors c = λ s door other i a b. one_door s door other i a b
