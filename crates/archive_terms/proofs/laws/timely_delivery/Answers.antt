use Rattle.std.proofs.Common.{List, ◌++◌, take}
use Rattle.archive_terms.specs.Archive.{Entry}
use Rattle.archive_terms.specs.Selection.{picked, is_stop_closed}
use Rattle.archive_terms.specs.Delivery.{started}
use Rattle.archive_terms.specs.Rounds.{last_front, outcomes}
use Rattle.archive_terms.proofs.Prefixes.{all_settled}
use Rattle.archive_terms.proofs.Runs.{timely_run}
use Rattle.archive_terms.proofs.laws.timely_delivery.Goals as goal

pub returns-clause-shape : goal.returns-clause-shape
returns-clause-shape c = timely_run

pub returns-clause-end_of_data : goal.returns-clause-end_of_data
returns-clause-end_of_data c = λ t entries later rounds some mode archive rise longer ended.
    let all : List Entry = take (last_front 0 rounds) entries ++ later in
    all_settled (picked all t.selection) (is_stop_closed t.selection all)
    (outcomes t entries rounds started)
    (timely_run t entries later rounds some mode archive rise longer).in_order ended
