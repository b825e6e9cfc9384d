use Rattle.std.proofs.Common.{◌∙◌, ◌-◌, ◌/◌, ◌+◌, arith, sym, add-one}
use Rattle.archive_index.proofs.Rising.{halved, behind_found, before_missed}
use Rattle.archive_index.proofs.row.first_from.Goals as goal

pub loop-low-preserved-then-reaches : goal.loop-low-preserved-then-reaches
loop-low-preserved-then-reaches g c = record {
  low_high = omega arith;
  within = omega arith;
  missed = c.loop-low.invariant.missed;
  reached = behind_found c.args.place c.args.moment _ _ c.read.result.now c.read.ensures.value
      (sym c.reaches.ensures ∙ c.if-reaches.true);
  last = c.loop-low.invariant.last;
  next = sym c.read.ensures.value;
  counted = λ b few.
      let d = c.loop-low.invariant.counted b few in
      let h = halved (c.loop-low.high - c.loop-low.low) ((c.loop-low.high - c.loop-low.low) / 2) d.0 d.1
      (omega arith) (omega arith) in
      (h.0, omega (arith, h.1), omega (arith, h.2, d.2, c.read.ensures.step));
}

pub loop-low-preserved : goal.loop-low-preserved
loop-low-preserved g c = record {
  low_high = omega arith;
  within = omega arith;
  missed = before_missed c.args.place c.args.moment _ _ c.read.result.now c.read.ensures.value
      (sym c.reaches.ensures ∙ c.if-reaches.false);
  reached = c.loop-low.invariant.reached;
  last = rw add-one (sym c.read.ensures.value);
  next = c.loop-low.invariant.next;
  counted = λ b few.
      let d = c.loop-low.invariant.counted b few in
      let h = halved (c.loop-low.high - c.loop-low.low)
      (c.loop-low.high - (c.loop-low.low + (c.loop-low.high - c.loop-low.low) / 2 + 1)) d.0 d.1
      (omega arith) (omega arith) in
      (h.0, omega (arith, h.1), omega (arith, h.2, d.2, c.read.ensures.step));
}
