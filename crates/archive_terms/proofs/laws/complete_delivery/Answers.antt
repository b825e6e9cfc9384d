use Rattle.std.proofs.Common.{List, ◌++◌, take}
use Rattle.archive_terms.specs.Archive.{Entry}
use Rattle.archive_terms.specs.Selection.{picked, is_stop_closed}
use Rattle.archive_terms.specs.Delivery.{started}
use Rattle.archive_terms.specs.Rounds.{last_front, outcomes, handed_items}
use Rattle.archive_terms.proofs.Prefixes.{entries_prefix, end_is_last}
use Rattle.archive_terms.proofs.Runs.{complete_run}
use Rattle.archive_terms.proofs.laws.complete_delivery.Goals as goal

pub returns-clause-items : goal.returns-clause-items
returns-clause-items c = complete_run

pub returns-clause-entries : goal.returns-clause-entries
returns-clause-entries c = λ t entries later rounds some mode archive rise longer.
    let all : List Entry = take (last_front 0 rounds) entries ++ later in
    entries_prefix (picked all t.selection) (is_stop_closed t.selection all)
    (handed_items (outcomes t entries rounds started))
    (complete_run t entries later rounds some mode archive rise longer)

pub returns-clause-end_of_data : goal.returns-clause-end_of_data
returns-clause-end_of_data c = λ t entries later rounds some mode archive rise longer ended.
    let all : List Entry = take (last_front 0 rounds) entries ++ later in
    end_is_last (picked all t.selection) (is_stop_closed t.selection all)
    (handed_items (outcomes t entries rounds started))
    (complete_run t entries later rounds some mode archive rise longer) ended
