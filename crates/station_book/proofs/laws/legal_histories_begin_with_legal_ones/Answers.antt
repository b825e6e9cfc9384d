use Rattle.station_book.proofs.Histories.{legal_begins, legal_goes_on}
use Rattle.station_book.proofs.laws.legal_histories_begin_with_legal_ones.Goals as goal

pub returns-clause-begins : goal.returns-clause-begins
returns-clause-begins c = legal_begins

pub returns-clause-goes_on : goal.returns-clause-goes_on
returns-clause-goes_on c = legal_goes_on
