use Rattle.archive_terms.proofs.Prefixes.{entries_prefix, end_is_last}
use Rattle.archive_terms.proofs.laws.prefix_of_all_items.Goals as goal

pub returns-clause-entries : goal.returns-clause-entries
returns-clause-entries c = entries_prefix

pub returns-clause-end_of_data : goal.returns-clause-end_of_data
returns-clause-end_of_data c = end_is_last
