use Rattle.std.proofs.Common.{◌∙◌, sym}
use Rattle.record_form.specs.Entry.{entries_of}
use Rattle.station_book.proofs.Extending.{failed, passed}
use Rattle.station_book.proofs.extend.push.Goals as goal

pub returns-then-is_err-2-clause-kept : goal.returns-then-is_err-2-clause-kept
returns-then-is_err-2-clause-kept c =
    failed c.add.result _ (sym c.is_err-2.ensures.value ∙ c.if-is_err-2.true) c.add.ensures.err
    (entries_of c.args.archive.now) c.requires

pub returns-clause-index : goal.returns-clause-index
returns-clause-index c =
    passed c.add.result _ (sym c.is_err-2.ensures.value ∙ c.if-is_err-2.false) c.add.ensures.ok
    (entries_of c.args.archive.now) c.requires
