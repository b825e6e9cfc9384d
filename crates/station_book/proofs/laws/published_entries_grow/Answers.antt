use Rattle.station_book.proofs.Published.{all_published, published_begins, all_archive, fronts_rise}
use Rattle.station_book.proofs.laws.published_entries_grow.Goals as goal

pub returns-clause-by_events : goal.returns-clause-by_events
returns-clause-by_events c = all_published

pub returns-clause-begin : goal.returns-clause-begin
returns-clause-begin c = published_begins

pub returns-clause-archive : goal.returns-clause-archive
returns-clause-archive c = all_archive

pub returns-clause-fronts : goal.returns-clause-fronts
returns-clause-fronts c = fronts_rise
