use Rattle.std.proofs.Common.{sym, subst}
use Rattle.archive_terms.specs.Selection.{by_quality}
use Rattle.archive_index.specs.Rows.{IsRising}
use Rattle.archive_index.proofs.RowsOf.{passing_rise, seals_rise}
use Rattle.archive_index.proofs.Told.{closed_before}
use Rattle.archive_index.proofs.index.Index.open_until.Goals as goal

pub returns-clause-exact : goal.returns-clause-exact
returns-clause-exact g c = λ entries place indexes archive few.
    let rows = indexes.sorts.frames in
    let seals = indexes.sorts.seals in
    let rising = passing_rise (by_quality 2) entries archive in
    let seals_up = seals_rise entries archive in
    let first = rw rows at (c.first_from-frame.ensures.first (subst IsRising (sym rows) rising)) in
    let sealed = rw seals at (c.first_from-seal.ensures.first (subst IsRising (sym seals) seals_up)) in
    let one = rw rows at c.first_from-frame.ensures.behind in
    let two = rw seals at c.first_from-seal.ensures.behind in
    let closed = closed_before c.in-Some.stop c.saturating_add.result place entries
    c.first_from-frame.result.count c.first_from-seal.result.count c.saturating_add.ensures few archive
    rising seals_up first sealed in
    rw (c.in-Some.is, c.min.ensures, c.place_of.ensures, c.place_of-2.ensures, one, two) closed
