use Rattle.station_book.proofs.Histories.{stands_more}
use Rattle.station_book.proofs.laws.one_event_more.Goals as goal

pub returns : goal.returns
returns c = stands_more
