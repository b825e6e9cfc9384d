use Rattle.frame_archive.proofs.LastTimes.{times_more}
use Rattle.frame_archive.proofs.times.times_of.Goals as goal

pub loop-entry-preserved : goal.loop-entry-preserved
loop-entry-preserved c =
    times_more c.args.entries.now c.loop-entry.entry-index c.entry-item.result c.loop-entry.times
    c.after-times.result c.loop-entry-test.true c.entry-item.is c.loop-entry.invariant
    c.after-times.ensures.frame c.after-times.ensures.seal
