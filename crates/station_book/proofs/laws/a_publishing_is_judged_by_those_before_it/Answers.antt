use Rattle.station_book.proofs.Published.{publishing_is}
use Rattle.station_book.proofs.laws.a_publishing_is_judged_by_those_before_it.Goals as goal

pub returns : goal.returns
returns c = λ s h k e entries legal is. publishing_is s h e k entries legal is
