use Rattle.std.proofs.Common.{◌-◌, length}
use Rattle.sle_numbers.specs.RequestedFrameQuality.{number_of}
use Rattle.station_desk.specs.Start.{told_desk}
use Rattle.rehearsal.proofs.Started.{HasCounted}
use Rattle.rehearsal.proofs.start.count_start.Given as goal

abbrev pub invariant-loop-buffers : goal.invariant-loop-buffers
invariant-loop-buffers l =
    HasCounted (told_desk l.archive l.start l.stop (number_of l.fn.quality)) l.buffers l.tally

abbrev pub decreases-loop-buffers : goal.decreases-loop-buffers
decreases-loop-buffers l = length l.buffers.buffers - l.buffers.count
