use Rattle.std.proofs.Common.{arith}
use Rattle.octet_core.proofs.Sent.{appends_more}
use Rattle.octet_core.proofs.writer_sink.write_whole.Goals as goal

pub loop-count-preserved-in-Ok : goal.loop-count-preserved-in-Ok
loop-count-preserved-in-Ok g c = (
  appends_more _ _ _ c.args.octets.now c.loop-count.count c.in-Ok.further c.loop-count.invariant.0
      c.in-Ok.ensures.bytes,
  omega (arith, c.in-Ok.ensures.bound, c.loop-count.invariant.1),
  c.loop-count.invariant.2,
)
