use Rattle.record_form.specs.Entry.{entry_of}
use Rattle.archive_index.proofs.Ends.{in_order}
use Rattle.archive_index.proofs.index.Index.may_follow.Goals as goal

pub returns-then-is_storable : goal.returns-then-is_storable
returns-then-is_storable c = λ entries indexes. rw (
  ← c.is_storable.ensures,
  c.if-is_storable.true,
  c.is_in_order.ensures,
  indexes.totals,
) (in_order entries (entry_of c.args.entry.now))
