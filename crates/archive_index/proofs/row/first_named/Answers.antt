use Rattle.std.proofs.Common.{◌∙◌, ◌-◌, ◌/◌, ◌+◌, arith, sym}
use Rattle.archive_index.proofs.Rising.{halved, behind_found, before_missed}
use Rattle.archive_index.proofs.row.first_named.Goals as goal

pub loop-low-preserved-then-reaches : goal.loop-low-preserved-then-reaches
loop-low-preserved-then-reaches g c = record {
  low_high = omega arith;
  within = omega arith;
  missed = c.loop-low.invariant.missed;
  reached = λ named through. behind_found c.args.place c.args.moment named _ c.named_row.result
      (c.named_row.ensures.row named through) (sym c.reaches.ensures ∙ c.if-reaches.true);
  counted = λ b few.
      let d = c.loop-low.invariant.counted b few in
      let h = halved (c.loop-low.high - c.loop-low.low) ((c.loop-low.high - c.loop-low.low) / 2) d.0 d.1
      (omega arith) (omega arith) in
      (h.0, omega (arith, h.1), omega (arith, h.2, d.2, c.named_row.ensures.steps));
}

pub loop-low-preserved : goal.loop-low-preserved
loop-low-preserved g c = record {
  low_high = omega arith;
  within = omega arith;
  missed = λ named through. before_missed c.args.place c.args.moment named _ c.named_row.result
      (c.named_row.ensures.row named through) (sym c.reaches.ensures ∙ c.if-reaches.false);
  reached = c.loop-low.invariant.reached;
  counted = λ b few.
      let d = c.loop-low.invariant.counted b few in
      let h = halved (c.loop-low.high - c.loop-low.low)
      (c.loop-low.high - (c.loop-low.low + (c.loop-low.high - c.loop-low.low) / 2 + 1)) d.0 d.1
      (omega arith) (omega arith) in
      (h.0, omega (arith, h.1), omega (arith, h.2, d.2, c.named_row.ensures.steps));
}
