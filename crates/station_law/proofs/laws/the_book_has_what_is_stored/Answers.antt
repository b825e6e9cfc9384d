use Rattle.station_law.proofs.Shown.{has_what_is_stored}
use Rattle.station_law.proofs.laws.the_book_has_what_is_stored.Goals as goal

pub returns : goal.returns
returns c = has_what_is_stored c.lines_rest_on.ensures
