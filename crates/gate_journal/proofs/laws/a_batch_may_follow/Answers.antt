use Rattle.std.proofs.Common.{sym, ◌∙◌}
use Rattle.std.proofs.lemmas.Bool.{and_parts}
use Rattle.std.proofs.lemmas.List.Folds.{list_all-append}
use Rattle.archive_terms.specs.Archive.{is_storable}
use Rattle.gate_journal.proofs.Following.{follows_kept}
use Rattle.gate_journal.proofs.laws.a_batch_may_follow.Goals as goal

pub returns-clause-archive : goal.returns-clause-archive
returns-clause-archive c = follows_kept c.read_back.ensures

pub returns-clause-storable : goal.returns-clause-storable
returns-clause-storable c stored batch archive =
    (and_parts _ _ (sym (list_all-append is_storable stored batch) ∙ (and_parts _ _ archive).0)).1
