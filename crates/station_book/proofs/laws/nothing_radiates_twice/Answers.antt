use Rattle.station_book.proofs.Radiating.{in_turn}
use Rattle.station_book.proofs.laws.nothing_radiates_twice.Goals as goal

pub returns : goal.returns
returns c = λ o h legal. in_turn c.nothing_radiates_twice.ensures o h legal
