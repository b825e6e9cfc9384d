use Rattle.std.proofs.Common.{◌≡◌, ◌++◌, length}
use Rattle.words.specs.Reading.{parts_behind}
use Rattle.pass_reading.specs.Lines.{lines_in}
use Rattle.pass_reading.proofs.pass.Reading.read_lines.Given as goal

abbrev pub invariant-loop-left : goal.invariant-loop-left
invariant-loop-left l =
    lines_in l.rows.items ++ parts_behind 10 l.left ≡ parts_behind 10 l.initial.left

abbrev pub decreases-loop-left : goal.decreases-loop-left
decreases-loop-left l = length (parts_behind 10 l.left)
