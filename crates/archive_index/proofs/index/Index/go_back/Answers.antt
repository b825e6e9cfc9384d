use Rattle.std.proofs.Common.{◌-◌, arith}
use Rattle.archive_index.specs.IndexState.{lists_of}
use Rattle.archive_index.proofs.Adding.{one_back}
use Rattle.archive_index.proofs.index.Index.go_back.Goals as goal

pub loop-left-preserved : goal.loop-left-preserved
loop-left-preserved c = record {
  within = omega arith;
  sorts = λ entries sorts.
      one_back (lists_of c.loop-left.self) (lists_of c.take_off.new.self) entries c.args.added.now
      c.loop-left.left (c.loop-left.left - 1) c.index-added-left.result c.take_off.ensures (omega arith)
      (omega arith) c.index-added-left.is (c.loop-left.invariant.sorts entries sorts);
}
