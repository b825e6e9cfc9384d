use Rattle.station_book.proofs.Notified.{told_in_turn}
use Rattle.station_book.proofs.laws.notices_are_told_in_turn.Goals as goal

pub returns : goal.returns
returns c = λ o h k e door one legal is goes. told_in_turn o h e k door one legal is goes
