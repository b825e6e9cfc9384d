use Rattle.std.proofs.Common.{length, ◌+◌, ◌≤◌}
use Rattle.script_head.proofs.Settings.{Passed}
use Rattle.script_head.proofs.head.find_end.Given as goal

-- the lines before the rest were passed
abbrev pub invariant-loop-rest : goal.invariant-loop-rest
invariant-loop-rest l = record {
  passed : Passed l.text l.rest l.lines;
  few : l.lines + length l.rest ≤ length l.text;
}

abbrev pub decreases-loop-rest : goal.decreases-loop-rest
decreases-loop-rest l = length l.rest
