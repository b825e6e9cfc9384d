use Rattle.std.proofs.Common.{◌∙◌, ◌+◌, arith, sym, refl, subst}
use Rattle.archive_index.specs.Rows.{IsRising}
use Rattle.archive_terms.specs.Selection.{by_quality}
use Rattle.archive_index.proofs.RowsOf.{passing_rise}
use Rattle.archive_index.proofs.Sums.{sum_before, saturated}
use Rattle.archive_index.proofs.index.Index.lost_through.Goals as goal

pub returns-in-Some-clause-exact : goal.returns-in-Some-clause-exact
returns-in-Some-clause-exact g c = λ entries indexes archive.
    let rows = indexes.sorts.frames in
    let rising = passing_rise (by_quality 2) entries archive in
    let first = rw rows at (c.first_from.ensures.first (subst IsRising (sym rows) rising)) in
    let within = rw rows at c.first_from.ensures.within in
    let sum = sum_before entries c.saturating_add.result c.first_from.result.count within first in
    let before = sym (rw rows at c.first_from.ensures.before) ∙ c.in-Some.is in
    let all = saturated entries (c.args.place + 1) c.saturating_add.result c.saturating_add.ensures
    (omega (arith, indexes.count)) in
    sym (sym all ∙ sum ∙ rw before refl)

pub returns-in-None-clause-exact : goal.returns-in-None-clause-exact
returns-in-None-clause-exact g c = λ entries indexes archive.
    let rows = indexes.sorts.frames in
    let rising = passing_rise (by_quality 2) entries archive in
    let first = rw rows at (c.first_from.ensures.first (subst IsRising (sym rows) rising)) in
    let within = rw rows at c.first_from.ensures.within in
    let sum = sum_before entries c.saturating_add.result c.first_from.result.count within first in
    let before = sym (rw rows at c.first_from.ensures.before) ∙ c.in-None.is in
    let all = saturated entries (c.args.place + 1) c.saturating_add.result c.saturating_add.ensures
    (omega (arith, indexes.count)) in
    sym (sym all ∙ sum ∙ rw before refl)
