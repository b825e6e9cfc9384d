use Rattle.std.proofs.Common.{refl}
use Rattle.archive_index.specs.IndexState.{lists_of}
use Rattle.archive_index.proofs.Adding.{sorts_back, sorts_back_other}
use Rattle.archive_index.proofs.index.Index.take_off.Goals as goal

pub returns-in-Frame : goal.returns-in-Frame
returns-in-Frame c = rw c.in-Frame.is (λ entries sorts.
    sorts_back (lists_of c.args.self.now) (lists_of c.take_frame.new.self) entries _
    (rw c.as_slice.ensures at c.take_frame.ensures) sorts)

pub returns-in-LossOfSync : goal.returns-in-LossOfSync
returns-in-LossOfSync c = rw (c.in-LossOfSync.is, c.take_last.ensures) (λ entries sorts.
    sorts_back_other (lists_of c.args.self.now) _ entries _ (λ f. refl) refl sorts)

pub returns-in-Production : goal.returns-in-Production
returns-in-Production c = rw (c.in-Production.is, c.take_last-in-Production.ensures)
    (λ entries sorts.
    sorts_back_other (lists_of c.args.self.now) _ entries _ (λ f. refl) refl sorts)

pub returns-in-Seal : goal.returns-in-Seal
returns-in-Seal c = rw (c.in-Seal.is, c.take_last-in-Seal.ensures) (λ entries sorts.
    sorts_back_other (lists_of c.args.self.now) _ entries _ (λ f. refl) refl sorts)
