use Rattle.std.proofs.Common.{◌≡◌, ◌∙◌, slice_get, Some, None, sym, refl}
use Rattle.archive_terms.specs.Selection.{is_not_after}
use Rattle.archive_index.specs.Rows.{rows_of, passes, is_wanted}
use Rattle.archive_index.specs.declared.row.Row.{Row}
use Rattle.archive_index.proofs.RowsOf.{passing_rise}
use Rattle.archive_index.proofs.Walks.{left_next, none_left, none_behind, within_stop, past_stop}
use Rattle.archive_index.proofs.Walks.{frames_from, frames_up_to}
use Rattle.archive_index.proofs.index.Index.next_frame.Goals as goal

pub returns-in_default-clause-next : goal.returns-in_default-clause-next
returns-in_default-clause-next g c = λ entries s place since indexes archive w.
    let rows = rows_of (passes s.filter) entries in
    let at = rw w.same_filter at (c.passing_row.ensures.row entries indexes) in
    let past : slice_get rows c.args.walk.now.frame ≡ None = sym at ∙ c.in_default.is in
    let none = none_behind (is_wanted s) (λ (r : Row). is_not_after s.stop r.moment) place
    c.args.walk.now.frame rows past w.frames in
    record { first = rw none refl; there = λ r is. cc }

pub returns-then-is_past-clause-next : goal.returns-then-is_past-clause-next
returns-then-is_past-clause-next g c = λ entries s place since indexes archive w.
    let rows = rows_of (passes s.filter) entries in
    let at = rw w.same_filter at (c.passing_row.ensures.row entries indexes) in
    let there : slice_get rows c.args.walk.now.frame ≡ Some c.in-Some.row = sym at ∙ c.in-Some.is in
    let past = past_stop c.args.walk.now.stop s.stop c.in-Some.row.moment w.stop
    (sym c.is_past.ensures ∙ c.if-is_past.true) in
    let none = none_left (is_wanted s) (λ (r : Row). is_not_after s.stop r.moment)
    (frames_up_to s.stop) place c.args.walk.now.frame rows c.in-Some.row
    (passing_rise s.filter entries archive) there past w.frames in
    record { first = rw none refl; there = λ r is. cc }

pub returns-clause-next : goal.returns-clause-next
returns-clause-next g c = λ entries s place since indexes archive w.
    let rows = rows_of (passes s.filter) entries in
    let at = rw w.same_filter at (c.passing_row.ensures.row entries indexes) in
    let there : slice_get rows c.args.walk.now.frame ≡ Some c.in-Some.row = sym at ∙ c.in-Some.is in
    let within = within_stop c.args.walk.now.stop s.stop c.in-Some.row.moment w.stop
    (sym c.is_past.ensures ∙ c.if-is_past.false) in
    let next = left_next (is_wanted s) (λ (r : Row). is_not_after s.stop r.moment)
    (frames_from s) place c.args.walk.now.frame rows c.in-Some.row
    (passing_rise s.filter entries archive) there within w.frames in
    record {
      first = sym next.0;
      there = λ r is. let same : c.in-Some.row ≡ r = cc in rw (← same) (there, within);
    }
