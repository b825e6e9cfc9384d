use Rattle.std.proofs.Common.{◌∙◌, ap}
use Rattle.archive_index.specs.IndexState.{lists_of, totals_seen}
use Rattle.archive_index.proofs.Adding.{sorts_same, on_err}
use Rattle.archive_index.proofs.index.Index.add.Goals as goal

pub returns-in_err-put-clause-err : goal.returns-in_err-put-clause-err
returns-in_err-put-clause-err c = on_err c.from_residual.result (λ entries indexes. record {
  sorts = sorts_same (lists_of c.args.self.now) (lists_of c.put.new.self) entries
      c.in_err-put.ensures.err indexes.sorts;
  count = c.put.ensures.count ∙ indexes.count;
  totals = ap totals_seen c.put.ensures.totals ∙ indexes.totals;
})
