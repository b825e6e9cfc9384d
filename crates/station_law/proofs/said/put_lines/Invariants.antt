use Rattle.std.proofs.Common.{drop}
use Rattle.script_store.specs.Steps.{Behind}
use Rattle.station_law.proofs.Telling.{told_text}
use Rattle.station_law.proofs.said.put_lines.Given as goal

-- what is said by the lines to come is what is still to be written
abbrev pub invariant-loop-line : goal.invariant-loop-line
invariant-loop-line g l = record {
  behind : Behind (g.O.Sink.written l.initial.output) (g.O.Sink.written l.output)
      (g.O.Sink.faults l.initial.output) (g.O.Sink.faults l.output)
      (told_text l.c l.lines) (told_text l.c (drop l.line-index l.lines));
}
