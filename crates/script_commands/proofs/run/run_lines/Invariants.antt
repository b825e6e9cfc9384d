use Rattle.std.proofs.Common.{◌+◌, ◌≤◌, length}
use Rattle.station_law.specs.State.{State}
use Rattle.station_law.specs.Standing.{Stands}
use Rattle.script_commands.proofs.Running.{Goes}
use Rattle.script_commands.proofs.run.run_lines.Given as goal

-- the text of the lines to come is what is still to be written
abbrev pub invariant-loop-rest : goal.invariant-loop-rest
invariant-loop-rest g l = record {
  goes : (first : State) → Stands l.initial.world first
      → Goes first l.world (g.O.Sink.written l.initial.output) (g.O.Sink.written l.output)
      (g.O.Sink.faults l.initial.output) (g.O.Sink.faults l.output) (l.before + 1) l.number l.text
      l.rest l.fine;
  numbers : l.number + length l.rest ≤ l.before + 1 + length l.text;
}

abbrev pub decreases-loop-rest : goal.decreases-loop-rest
decreases-loop-rest g l = length l.rest
