use Rattle.std.proofs.Common.{rules, arith}
use Rattle.std.proofs.lemmas.List.{length-map}
use Rattle.record_form.specs.Entry.{entry_of, entries_of}
use Rattle.station_book.proofs.Opened.{opened_is}
use Rattle.station_book.proofs.book.Book.open.Goals as goal

pub returns-clause-new : goal.returns-clause-new
returns-clause-new c =
    opened_is c.args.services.items c.args.limits.room c.args.limits.longest c.args.workers
    c.length.result (entries_of c.of-held.result) _ _ (search rules) (search rules)
    (omega (arith, length-map c.of-held.result entry_of, c.length.ensures))
