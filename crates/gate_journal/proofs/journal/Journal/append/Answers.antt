use Rattle.std.proofs.Common.{inl, ◌++◌, List, ℕ, ap, sym, subst, ◌∙◌}
use Rattle.disk_model.specs.Moments.{HoldsThroughout}
use Rattle.disk_model.specs.Throughout.{started}
use Rattle.record_form.specs.Entry.{entries_of}
use Rattle.gate_journal.specs.JournalState.{IsOldOrNew, JournalState, closed_batch}
use Rattle.gate_journal.proofs.Adding.{kept_image}
use Rattle.gate_journal.proofs.journal.Journal.append.Goals as goal

pub returns-then-free-need-clause-any_moment : goal.returns-then-free-need-clause-any_moment
returns-then-free-need-clause-any_moment g c entries keeps =
    started g.D.Disk.moment g.D.Disk.images_since _ _ (λ image was.
    inl (kept_image _ entries image keeps (c.images_at_a_moment.ensures.only_now _ image was)))

pub returns-in_err-write_batch-clause-any_moment : goal.returns-in_err-write_batch-clause-any_moment
returns-in_err-write_batch-clause-any_moment g c entries keeps =
    subst (λ (s : JournalState g.row.D.Denot). HoldsThroughout g.D.Disk.moment g.D.Disk.images_since
    c.args.self.now.disk s.disk (IsOldOrNew entries c.args.batch.now)) (sym c.self.view_is)
    (started g.D.Disk.moment g.D.Disk.images_since _ _ (λ image was.
    inl (kept_image _ entries image keeps (c.images_at_a_moment.ensures.only_now _ image was))))

pub returns-in_err-put-clause-failed : goal.returns-in_err-put-clause-failed
returns-in_err-put-clause-failed g c is =
    let spelled = c.as_slice-3.ensures ∙ c.in_ok-write_batch.ensures
    ∙ ap (λ (front : List ℕ). front ++ closed_batch (entries_of c.as_slice-2.result.now))
    c.clear.ensures
    ∙ ap closed_batch c.as_slice-2.ensures in
    rw (← c.self.view_is, ← spelled) c.in_err-put.ensures.calls
