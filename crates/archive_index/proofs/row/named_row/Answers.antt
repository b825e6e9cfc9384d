use Rattle.std.proofs.Common.{◌∙◌, sym, arith}
use Rattle.std.proofs.lemmas.Option.{slice_get_within}
use Rattle.archive_index.proofs.Through.{through_at}
use Rattle.archive_index.proofs.row.named_row.Goals as goal

pub returns-then-number-length-clause-row : goal.returns-then-number-length-clause-row
returns-then-number-length-clause-row g c = λ named through.
    let at = through_at c.args.rows.now c.args.numbers.now named c.args.place
    c.read-number.result.now through c.read-number.ensures.value in
    let below = slice_get_within c.args.rows.now c.read-number.result.now at.0 at.1 in
    absurd (omega (arith, below))

pub returns-clause-row : goal.returns-clause-row
returns-clause-row g c = λ named through.
    let at = through_at c.args.rows.now c.args.numbers.now named c.args.place
    c.read-number.result.now through c.read-number.ensures.value in
    at.2 ∙ sym at.1 ∙ c.read.ensures.value
