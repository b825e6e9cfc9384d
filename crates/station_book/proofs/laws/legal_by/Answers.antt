use Rattle.station_book.proofs.Named.{legal}
use Rattle.station_book.proofs.laws.legal_by.Goals as goal

pub returns : goal.returns
returns c = legal
