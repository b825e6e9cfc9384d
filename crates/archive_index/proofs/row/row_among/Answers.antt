use Rattle.std.proofs.Common.{arith}
use Rattle.archive_index.proofs.Through.{through_past}
use Rattle.archive_index.proofs.row.row_among.Goals as goal

pub returns-then-place-length-clause-row : goal.returns-then-place-length-clause-row
returns-then-place-length-clause-row g c = λ named through.
    through_past c.args.rows.now c.args.numbers.now named c.args.place through (omega arith)
