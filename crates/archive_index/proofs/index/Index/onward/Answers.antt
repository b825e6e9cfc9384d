use Rattle.std.proofs.Common.{◌∙◌, ℕ, ◌+◌, Some, sym, ap, arith, nat_le}
use Rattle.archive_terms.specs.Continuity.{lost_up_to}
use Rattle.std.specs.Option.{option_map}
use Rattle.archive_terms.specs.Selection.{is_not_after, is_notice}
use Rattle.archive_index.specs.Rows.{rows_of, passes, is_wanted}
use Rattle.archive_index.specs.Walking.{is_told_from}
use Rattle.archive_index.specs.declared.row.Row.{Row}
use Rattle.archive_index.proofs.RowsOf.{passing_rise, notices_rise, row_lost}
use Rattle.archive_index.proofs.Walks.{left_next, later_same, frames_from, notices_from}
use Rattle.archive_index.proofs.Sums.{told_lost}
use Rattle.archive_index.proofs.Onward.{next_of_rows, frame_sooner, notice_sooner, frame_before}
use Rattle.archive_index.proofs.Onward.{frame_entry, notice_entry, apart, frame_told, notice_told}
use Rattle.archive_index.proofs.index.Index.onward.Goals as goal

pub returns-in-Some-clause-next : goal.returns-in-Some-clause-next
returns-in-Some-clause-next g c = λ entries s place since indexes archive w.
    let frame = c.next_frame-frame.ensures.next entries s place since indexes archive w in
    let notice = c.next_notice-notice.ensures.next entries s place since indexes archive w in
    let both = notice_sooner c.next_frame-frame.result c.next_notice-notice.result c.in-Some.row
    (sym c.sooner.ensures ∙ c.in-Some.is) in
    both.1 ∙ rw (frame.first, notice.first) (sym (next_of_rows s entries place archive))

pub returns-in-Some-clause-found : goal.returns-in-Some-clause-found
returns-in-Some-clause-found g c = λ entries s place since e indexes archive w there.
    let n = c.in-Some.row in
    let frows = rows_of (passes s.filter) entries in
    let nrows = rows_of is_notice entries in
    let frame = c.next_frame-frame.ensures.next entries s place since indexes archive w in
    let notice = c.next_notice-notice.ensures.next entries s place since indexes archive w in
    let both = notice_sooner c.next_frame-frame.result c.next_notice-notice.result n
    (sym c.sooner.ensures ∙ c.in-Some.is) in
    let at = notice.there n both.0 in
    let next = left_next (is_told_from s entries)
    (λ (r : Row). nat_le r.place c.args.walk.now.until) (notices_from s entries) place
    c.args.walk.now.notice nrows n (notices_rise entries archive) at.0 at.1 w.notices in
    let told = notice_told entries since n.place e
    (notice_entry entries c.args.walk.now.notice n e at.0 there) in
    let frames = later_same (is_wanted s) (frames_from s) place (n.place + 1) frows
    (passing_rise s.filter entries archive) (omega (arith, next.1))
    (λ f is. let one = frame.there f (frame.first ∙ is) in
    apart s entries c.args.walk.now.frame c.args.walk.now.notice f n one.0 at.0
    (both.2 f (frame.first ∙ is))) in (
      told.0,
      record {
        same_filter = w.same_filter;
        stop = w.stop;
        frames = frames ∙ w.frames;
        notices = next.2;
        lost = w.lost ∙ ap (option_map (λ (p : ℕ). lost_up_to entries (p + 1))) (sym told.1);
      },
    )

pub returns-in_default-frame-clause-next : goal.returns-in_default-frame-clause-next
returns-in_default-frame-clause-next g c = λ entries s place since indexes archive w.
    let frame = c.next_frame-frame.ensures.next entries s place since indexes archive w in
    let notice = c.next_notice-notice.ensures.next entries s place since indexes archive w in
    let first = frame_sooner c.next_frame-frame.result c.next_notice-notice.result
    (sym c.sooner.ensures ∙ c.in_default.is) in
    ap (option_map (λ (r : Row). r.place)) (sym c.in_default-frame.is)
    ∙ first ∙ rw (frame.first, notice.first) (sym (next_of_rows s entries place archive))

pub returns-clause-next : goal.returns-clause-next
returns-clause-next g c = λ entries s place since indexes archive w.
    let frame = c.next_frame-frame.ensures.next entries s place since indexes archive w in
    let notice = c.next_notice-notice.ensures.next entries s place since indexes archive w in
    let first = frame_sooner c.next_frame-frame.result c.next_notice-notice.result
    (sym c.sooner.ensures ∙ c.in_default.is) in
    ap (option_map (λ (r : Row). r.place)) (sym c.in-Some-frame.is)
    ∙ first ∙ rw (frame.first, notice.first) (sym (next_of_rows s entries place archive))

pub returns-clause-found : goal.returns-clause-found
returns-clause-found g c = λ entries s place since e indexes archive w there.
    let f = c.in-Some-frame.row in
    let frows = rows_of (passes s.filter) entries in
    let nrows = rows_of is_notice entries in
    let frame = c.next_frame-frame.ensures.next entries s place since indexes archive w in
    let notice = c.next_notice-notice.ensures.next entries s place since indexes archive w in
    let at = frame.there f c.in-Some-frame.is in
    let next = left_next (is_wanted s) (λ (r : Row). is_not_after s.stop r.moment) (frames_from s)
    place c.args.walk.now.frame frows f (passing_rise s.filter entries archive) at.0 at.1 w.frames in
    let told = frame_told s entries since f.place e
    (frame_entry s entries c.args.walk.now.frame f e at.0 there) in
    let through = row_lost (passes s.filter) entries c.args.walk.now.frame f at.0 in
    let notices = later_same (is_told_from s entries) (notices_from s entries) place (f.place + 1)
    nrows (notices_rise entries archive) (omega (arith, next.1))
    (λ n is. frame_before c.next_frame-frame.result c.next_notice-notice.result f n
    (sym c.sooner.ensures ∙ c.in_default.is) c.in-Some-frame.is (notice.first ∙ is)) in (
      c.lost_since-lost.ensures
          ∙ told_lost c.lost_sums.ensures.running entries since c.args.walk.now.lost f w.lost through
          ∙ told.0,
      record {
        same_filter = w.same_filter;
        stop = w.stop;
        frames = next.2;
        notices = notices ∙ w.notices;
        lost = ap (λ n. Some n) through
            ∙ ap (option_map (λ (p : ℕ). lost_up_to entries (p + 1))) (sym told.1);
      },
    )
