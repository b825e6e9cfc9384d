use Rattle.station_book.proofs.Histories.{opening_stays}
use Rattle.station_book.proofs.laws.the_origin_stays.Goals as goal

pub returns : goal.returns
returns c = opening_stays
