use Rattle.std.proofs.Common.{◌≡◌, ◌-◌, length, map, drop}
use Rattle.station_desk.specs.Start.{told_desk}
use Rattle.sle_numbers.specs.RequestedFrameQuality.{number_of}
use Rattle.station_law.specs.Desk.{said_at_start}
use Rattle.script_store.specs.Said.{handed, texts}
use Rattle.script_store.specs.Steps.{Behind}
use Rattle.station_law.proofs.desk.answer_start.Given as goal

-- the text of the buffers to come is what is still to be written
abbrev pub invariant-loop-buffers : goal.invariant-loop-buffers
invariant-loop-buffers g l = record {
  of_start : l.buffers.buffers
      ≡ told_desk (g.L.Looks.entries l.archive) l.start l.stop (number_of l.fn.quality);
  behind : Behind (g.O.Sink.written l.initial.output) (g.O.Sink.written l.output)
      (g.O.Sink.faults l.initial.output) (g.O.Sink.faults l.output)
      (texts (said_at_start (g.L.Looks.entries l.archive) l.start l.stop (number_of l.fn.quality)))
      (texts (map (handed 0) (drop l.buffers.count l.buffers.buffers)));
}

abbrev pub decreases-loop-buffers : goal.decreases-loop-buffers
decreases-loop-buffers g l = length l.buffers.buffers - l.buffers.count
