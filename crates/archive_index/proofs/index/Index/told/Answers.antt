use Rattle.std.proofs.Common.{◌∙◌, length, sym, arith}
use Rattle.std.proofs.Common.{subst, refl, ap}
use Rattle.frame_select.specs.Selection.{selection_of}
use Rattle.archive_index.specs.Rows.{IsRising}
use Rattle.archive_index.specs.declared.row.Row.{Row}
use Rattle.archive_index.proofs.RowsOf.{notices_rise}
use Rattle.archive_index.proofs.Told.{none_told, silent, unstarted, told_rest}
use Rattle.archive_index.proofs.Short.{short_frames, short_seals, short_notices}
use Rattle.archive_index.proofs.index.Index.told.Goals as goal

pub returns-then-not-selection-clause-told : goal.returns-then-not-selection-clause-told
returns-then-not-selection-clause-told g c = λ entries place indexes archive first.
    none_told entries (selection_of c.args.selection.now) place _ _
    (c.length.ensures ∙ ap (λ xs. length xs) indexes.sorts.notices)
    (λ r. silent entries (selection_of c.args.selection.now) place r (grind arith))

pub returns-in_default-clause-told : goal.returns-in_default-clause-told
returns-in_default-clause-told g c = λ entries place indexes archive first.
    none_told entries (selection_of c.args.selection.now) place _ _
    (c.length.ensures ∙ ap (λ xs. length xs) indexes.sorts.notices)
    (λ (r : Row). unstarted entries (selection_of c.args.selection.now) place r
    (c.started_from.ensures.exact entries r.place indexes archive ∙ rw c.in_default.is refl))

pub returns-in_default-clause-steps : goal.returns-in_default-clause-steps
returns-in_default-clause-steps g c = λ entries b indexes few.
    let frames = short_frames _ entries indexes in
    let one = c.started_from.ensures.steps b (omega (arith, frames)) in
    omega (arith, one)

pub returns-clause-told : goal.returns-clause-told
returns-clause-told g c = λ entries place indexes archive first.
    let rows = indexes.sorts.notices in
    let rising = notices_rise entries archive in
    let found = rw rows at (c.first_from-notice.ensures.first (subst IsRising (sym rows) rising)) in
    told_rest entries (selection_of c.args.selection.now) place c.args.first c.in-Some.from
    c.open_until-until.result c.first_from-notice.result.count (grind arith) first
    (omega (arith, indexes.count))
    (λ n. c.started_from.ensures.exact entries n indexes archive ∙ rw c.in-Some.is refl)
    (λ n few. c.open_until-until.ensures.exact entries n indexes archive few)
    (rw c.max.ensures at found)

pub returns-clause-steps : goal.returns-clause-steps
returns-clause-steps g c = λ entries b indexes few.
    let frames = short_frames _ entries indexes in
    let seals = short_seals _ entries indexes in
    let notices = short_notices _ entries indexes in
    let one = c.started_from.ensures.steps b (omega (arith, frames)) in
    let two = c.open_until-until.ensures.steps b (omega (arith, frames)) (omega (arith, seals)) in
    let three = c.first_from-notice.ensures.steps b (omega (arith, notices)) in
    omega (arith, one, two, three)
