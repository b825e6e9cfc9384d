use Rattle.std.proofs.Common.{◌∙◌, ◌++◌, ◌∷◌, [], ap, sym, Err}
use Rattle.record_form.specs.Lent.{lent_entry}
use Rattle.gate_journal.specs.Reading.{next_entry, with_next}
use Rattle.gate_journal.proofs.Again.{in_order, next_again}
use Rattle.gate_journal.proofs.Passed.{entry_late}
use Rattle.gate_journal.proofs.passing.pass_entry.Goals as goal

pub returns-in-Err-clause-exact : goal.returns-in-Err-clause-exact
unfolding next_entry
returns-in-Err-clause-exact c before knows =
    ap (with_next before c.args.file.now c.args.place) c.in-Err.ensures.exact
    ∙ ap Err (sym (c.first_fault.ensures before knows))

pub returns-in-Some-clause-exact : goal.returns-in-Some-clause-exact
returns-in-Some-clause-exact c before knows =
    let entry = lent_entry c.in-Ok.read.0 in
    let known = c.in-Some.ensures before knows in (
      before ++ entry ∷ [],
      next_again before c.args.file.now c.args.place entry c.in-Ok.read.1 c.in-Ok.ensures.exact
          (in_order c.archive_grows.ensures.archive before entry [] known.0),
      known,
    )

pub returns-in-None-clause-exact : goal.returns-in-None-clause-exact
returns-in-None-clause-exact c before knows =
    entry_late c.archive_grows.ensures.archive before c.args.file.now c.args.place
    (lent_entry c.in-Ok.read.0) c.in-Ok.read.1 c.args.times c.in-Ok.ensures.exact
    c.in-Ok.ensures.stands.storable knows (c.in-None.ensures before knows)
