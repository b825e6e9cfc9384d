use Rattle.std.proofs.Common.{◌+◌, ◌++◌, arith}
use Rattle.frame_archive.specs.Acknowledges.{Acknowledges}
use Rattle.kill_store.specs.Numbered.{numbered_between}
use Rattle.kill_store.proofs.Kept.{kept_on, kept_more}
use Rattle.kill_store.proofs.CountLines.{told_more, told_stopped}
use Rattle.kill_store.proofs.storing.store_up_to.Goals as goal

pub returns-in_err-store_one-clause-told : goal.returns-in_err-store_one-clause-told
returns-in_err-store_one-clause-told g c =
    told_stopped _ _ _ _ _ _ c.args.archive.now.count c.loop-number.number
    c.store_one.new.archive.count c.in_err-store_one.field-0.0 c.from_residual.result
    c.from_residual.ensures.1 (omega arith) c.in_err-store_one.ensures.grows
    c.loop-number.invariant.told c.in_err-store_one.ensures.told

pub returns-in_err-store_one-clause-acknowledged :
    goal.returns-in_err-store_one-clause-acknowledged
returns-in_err-store_one-clause-acknowledged g c =
    λ entries acknowledged. kept_on
    (λ all. Acknowledges g.D.Disk.pending c.store_one.new.archive all) entries
    c.args.archive.now.count c.loop-number.number c.store_one.new.archive.count (omega arith)
    c.in_err-store_one.ensures.grows
    (c.in_err-store_one.ensures.acknowledged
    (entries ++ numbered_between c.args.archive.now.count c.loop-number.number)
    (c.loop-number.invariant.acknowledged entries acknowledged))

pub loop-number-preserved : goal.loop-number-preserved
loop-number-preserved g c = record {
  rests = c.in_ok-store_one.ensures.rests;
  at = c.in_ok-store_one.ensures.one;
  end = omega arith;
  told = told_more _ _ _ _ _ _ c.args.archive.now.count c.loop-number.number
      (c.loop-number.number + 1) _ (omega arith) (omega arith) c.loop-number.invariant.told
      (rw c.in_ok-store_one.ensures.one at c.in_ok-store_one.ensures.told);
  acknowledged = λ entries acknowledged. kept_more
      (λ all. Acknowledges g.D.Disk.pending c.store_one.new.archive all) entries
      c.args.archive.now.count c.loop-number.number c.store_one.new.archive.count
      (c.loop-number.number + 1) (omega arith) c.in_ok-store_one.ensures.grows
      c.in_ok-store_one.ensures.one
      (c.in_ok-store_one.ensures.acknowledged
      (entries ++ numbered_between c.args.archive.now.count c.loop-number.number)
      (c.loop-number.invariant.acknowledged entries acknowledged));
}

pub returns-clause-all : goal.returns-clause-all
returns-clause-all g c = omega arith
