use Rattle.std.proofs.Common.{◌≡◌, ◌++◌, drop, map}
use Rattle.clap.specs.Words.{found_of, rows_of}
use Rattle.user_line.specs.Clap.{value_in}
use Rattle.user_line.specs.Line.{texts_of}
use Rattle.user_line.proofs.clap_reading.values_at.Given as goal

abbrev pub invariant-loop-id : goal.invariant-loop-id
invariant-loop-id l =
    texts_of l.words.items
    ++ map (value_in (rows_of (found_of l.matches))) (texts_of (drop l.id-index l.ids))
    ≡ map (value_in (rows_of (found_of l.matches))) (texts_of l.ids)
