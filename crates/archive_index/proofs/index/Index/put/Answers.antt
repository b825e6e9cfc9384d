use Rattle.std.proofs.Common.{refl, ◌∙◌}
use Rattle.record_form.specs.Entry.{entry_of}
use Rattle.archive_index.specs.IndexState.{lists_of}
use Rattle.archive_index.proofs.Adding.{on_frame, on_notice, on_seal}
use Rattle.archive_index.proofs.index.Index.put.Goals as goal

pub returns-in-Frame-clause-ok : goal.returns-in-Frame-clause-ok
returns-in-Frame-clause-ok c = rw c.in-Frame.is (on_frame c.put_frame.result
    (lists_of c.args.self.now) (lists_of c.put_frame.new.self) _ c.row_of.result c.args.place
    c.args.lost (rw c.as_slice.ensures at c.put_frame.ensures.ok) c.row_of.ensures)

pub returns-in-LossOfSync-clause-ok : goal.returns-in-LossOfSync-clause-ok
returns-in-LossOfSync-clause-ok c = on_notice c.put_row.result (lists_of c.args.self.now)
    c.put_row.new.list (entry_of c.args.entry.now) c.untimed.result c.args.place c.args.lost
    c.put_row.ensures.ok (c.untimed.ensures ∙ rw c.in-LossOfSync.is refl)
    (λ f. rw c.in-LossOfSync.is refl) (rw c.in-LossOfSync.is refl) (rw c.in-LossOfSync.is refl)

pub returns-in-Production-clause-ok : goal.returns-in-Production-clause-ok
returns-in-Production-clause-ok c = on_notice c.put_row-in-Production.result
    (lists_of c.args.self.now) c.put_row-in-Production.new.list (entry_of c.args.entry.now)
    c.untimed-in-Production.result c.args.place c.args.lost c.put_row-in-Production.ensures.ok
    (c.untimed-in-Production.ensures ∙ rw c.in-Production.is refl)
    (λ f. rw c.in-Production.is refl) (rw c.in-Production.is refl) (rw c.in-Production.is refl)

pub returns-in-Seal-clause-ok : goal.returns-in-Seal-clause-ok
returns-in-Seal-clause-ok c = rw c.in-Seal.is (on_seal c.put_row-in-Seal.result
    (lists_of c.args.self.now) c.put_row-in-Seal.new.list _ c.row_of-in-Seal.result c.args.place
    c.args.lost c.put_row-in-Seal.ensures.ok c.row_of-in-Seal.ensures)
