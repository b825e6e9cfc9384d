use Rattle.std.proofs.Common.{◌-◌, length}
use Rattle.disk_model.proofs.Piecewise.{read_more, room}
use Rattle.disk_model.proofs.pieces.read_whole.Goals as goal

pub loop-done-preserved : goal.loop-done-preserved
loop-done-preserved g c = (
  read_more (g.F.RawFile.pending c.args.file.now) c.loop-done.into c.read_piece.new.into
      c.args.place c.loop-done.done (length c.loop-done.into - c.loop-done.done) c.in-Ok.further
      c.loop-done.invariant.1 c.in-Ok.ensures.bound c.loop-done.invariant.0
      c.in-Ok.ensures.octets,
  room c.loop-done.into c.read_piece.new.into c.loop-done.done
      (length c.loop-done.into - c.loop-done.done) c.in-Ok.further c.loop-done.invariant.1
      c.in-Ok.ensures.bound,
)
