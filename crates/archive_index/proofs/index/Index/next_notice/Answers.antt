use Rattle.std.proofs.Common.{◌≡◌, ◌∙◌, slice_get, Some, None, true, false, nat_le, sym, refl, arith}
use Rattle.std.proofs.lemmas.Bool.Decides.{nat_tests}
use Rattle.archive_terms.specs.Selection.{is_notice}
use Rattle.archive_index.specs.Rows.{rows_of}
use Rattle.archive_index.specs.Walking.{is_told_from}
use Rattle.archive_index.specs.declared.row.Row.{Row}
use Rattle.archive_index.proofs.RowsOf.{notices_rise}
use Rattle.archive_index.proofs.Walks.{left_next, none_left, none_behind, notices_from, notices_up_to}
use Rattle.archive_index.proofs.index.Index.next_notice.Goals as goal

pub returns-in_default-clause-next : goal.returns-in_default-clause-next
returns-in_default-clause-next g c = λ entries s place since indexes archive w.
    let rows = rows_of is_notice entries in
    let past : slice_get rows c.args.walk.now.notice ≡ None =
    rw indexes.sorts.notices at (sym c.row_in.ensures.row ∙ c.in_default.is) in
    let none = none_behind (is_told_from s entries) (λ (r : Row). nat_le r.place c.args.walk.now.until)
    place c.args.walk.now.notice rows past w.notices in
    record { first = rw none refl; there = λ r is. cc }

pub returns-then-row-walk-clause-next : goal.returns-then-row-walk-clause-next
returns-then-row-walk-clause-next g c = λ entries s place since indexes archive w.
    let rows = rows_of is_notice entries in
    let there : slice_get rows c.args.walk.now.notice ≡ Some c.in-Some.row =
    rw indexes.sorts.notices at (sym c.row_in.ensures.row ∙ c.in-Some.is) in
    let past : nat_le c.in-Some.row.place c.args.walk.now.until ≡ false = grind (arith, nat_tests) in
    let none = none_left (is_told_from s entries) (λ (r : Row). nat_le r.place c.args.walk.now.until)
    (notices_up_to c.args.walk.now.until) place c.args.walk.now.notice rows c.in-Some.row
    (notices_rise entries archive) there past w.notices in
    record { first = rw none refl; there = λ r is. cc }

pub returns-clause-next : goal.returns-clause-next
returns-clause-next g c = λ entries s place since indexes archive w.
    let rows = rows_of is_notice entries in
    let there : slice_get rows c.args.walk.now.notice ≡ Some c.in-Some.row =
    rw indexes.sorts.notices at (sym c.row_in.ensures.row ∙ c.in-Some.is) in
    let within : nat_le c.in-Some.row.place c.args.walk.now.until ≡ true =
    grind (arith, nat_tests) in
    let next = left_next (is_told_from s entries) (λ (r : Row). nat_le r.place c.args.walk.now.until)
    (notices_from s entries) place c.args.walk.now.notice rows c.in-Some.row
    (notices_rise entries archive) there within w.notices in
    record {
      first = sym next.0;
      there = λ r is. let same : c.in-Some.row ≡ r = cc in rw (← same) (there, within);
    }
