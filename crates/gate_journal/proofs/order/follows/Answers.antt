use Rattle.std.proofs.Common.{[], ◌++◌, refl, ◌∙◌}
use Rattle.record_form.specs.Entry.{entries_of}
use Rattle.gate_journal.proofs.Passed.{known}
use Rattle.gate_journal.proofs.order.follows.Goals as goal

pub returns : goal.returns
returns c =
    c.is_some.ensures
    ∙ known (c.args.entries.now ++ c.args.batch.now) c.pass.result
    (rw (← c.as_slice.ensures, ← c.as_slice-2.ensures)
    (c.pass.ensures ([] ++ entries_of c.as_slice.result.now)
    (c.pass-times.ensures [] (refl, refl, refl))))
