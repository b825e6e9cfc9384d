use Rattle.std.proofs.Common.{take_all, ap, arith}
use Rattle.std.proofs.lemmas.List.Sums.{sum_by_more}
use Rattle.buffer_message.proofs.Fit.{octets_in, short_here}
use Rattle.buffer_message.proofs.fitting.octets_of_frames.Goals as goal

pub overflow_add-octets : goal.overflow_add-octets
overflow_add-octets c =
    omega (arith, short_here _ _ _ c.requires.in_range c.loop-item-test.true c.item-item.is)

pub loop-item-preserved : goal.loop-item-preserved
loop-item-preserved c =
    let more = sum_by_more octets_in c.args.items.now c.loop-item.item-index c.item-item.result
    c.loop-item-test.true in
    record {
      octets = omega (
        arith,
        c.loop-item.invariant.octets,
        more,
        ap octets_in c.item-item.is,
        c.frame_octets-octets.ensures,
      );
      small = omega (
        arith,
        c.loop-item.invariant.small,
        short_here _ _ _ c.requires.in_range c.loop-item-test.true c.item-item.is,
        c.frame_octets-octets.ensures,
      );
    }

pub returns : goal.returns
returns c =
    let all = take_all c.loop-item.item-index c.args.items.now c.loop-item-test.false in
    cc
