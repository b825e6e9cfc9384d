use Rattle.std.proofs.Common.{◌≡◌, ◌∙◌, ◌+◌, nat_lt, nat_le, sym, arith, subst, refl}
use Rattle.std.proofs.lemmas.Bool.Decides.{nat_tests}
use Rattle.archive_terms.specs.Selection.{by_quality}
use Rattle.archive_index.specs.Rows.{IsRising, passes}
use Rattle.archive_index.proofs.RowsOf.{passing_rise, row_below}
use Rattle.archive_index.proofs.Told.{started_before}
use Rattle.archive_index.proofs.index.Index.started_from.Goals as goal

pub returns-in-Some-behind-clause-exact : goal.returns-in-Some-behind-clause-exact
returns-in-Some-behind-clause-exact g c = λ entries place indexes archive.
    let rows = indexes.sorts.frames in
    let rising = passing_rise (by_quality 2) entries archive in
    let found = rw rows at (c.first_from.ensures.first (subst IsRising (sym rows) rising)) in
    let behind = sym (rw rows at c.first_from.ensures.behind) ∙ c.in-Some-behind.is in
    let before = started_before c.in-Some.moment place entries c.first_from.result.count archive rising
    found in
    let below = row_below (passes (by_quality 2)) entries c.first_from.result.count
    c.in-Some-behind.row behind in
    let next : c.saturating_add.result ≡ c.in-Some-behind.row.place + 1 =
    omega (arith, c.saturating_add.ensures, below, indexes.count) in
    let same : nat_lt c.in-Some-behind.row.place place ≡ nat_le (c.in-Some-behind.row.place + 1) place =
    grind (arith, nat_tests) in
    rw (c.in-Some.is, next) (before ∙ rw behind same)

pub returns-in-None-behind-clause-exact : goal.returns-in-None-behind-clause-exact
returns-in-None-behind-clause-exact g c = λ entries place indexes archive.
    let rows = indexes.sorts.frames in
    let rising = passing_rise (by_quality 2) entries archive in
    let found = rw rows at (c.first_from.ensures.first (subst IsRising (sym rows) rising)) in
    let behind = sym (rw rows at c.first_from.ensures.behind) ∙ c.in-None-behind.is in
    let before = started_before c.in-Some.moment place entries c.first_from.result.count archive rising
    found in
    rw c.in-Some.is (before ∙ rw behind refl)
