use Rattle.station_book.proofs.Named.{more}
use Rattle.station_book.proofs.laws.more_by.Goals as goal

pub returns : goal.returns
returns c = more
