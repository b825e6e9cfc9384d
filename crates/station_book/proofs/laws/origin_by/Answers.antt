use Rattle.station_book.proofs.Named.{origin}
use Rattle.station_book.proofs.laws.origin_by.Goals as goal

pub returns : goal.returns
returns c = origin
