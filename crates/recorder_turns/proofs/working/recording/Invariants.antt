use Rattle.recorder_turns.specs.Steps.{worker}
use Rattle.recorder_turns.proofs.Going.{Going}
use Rattle.recorder_turns.proofs.working.recording.Given as goal

abbrev pub invariant-steps : goal.invariant-steps
invariant-steps g l =
    Going g.D.Disk.pending g.D.Disk.makes g.D.Disk.fails g.F.FrameSource.answers l.station l.tally
    (worker l.initial.archive l.initial.frames l.initial.pass) (worker l.archive l.frames l.pass)

abbrev pub decreases-steps : goal.decreases-steps
decreases-steps g l = l.pass.left
