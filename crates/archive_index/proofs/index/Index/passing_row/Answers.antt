use Rattle.std.proofs.Common.{sym, refl}
use Rattle.frame_select.specs.Selection.{id_of}
use Rattle.archive_index.proofs.Short.{channel_through, channel_none}
use Rattle.archive_index.proofs.index.Index.passing_row.Goals as goal

pub returns-in-Some-clause-row : goal.returns-in-Some-clause-row
returns-in-Some-clause-row g c = λ entries indexes. rw c.in-Channel.is
    (c.row_among-in-Some.ensures.row _ (channel_through c.args.self.now entries c.of.result
    (id_of c.in-Channel.id) c.in-Some.numbers.now indexes c.of.ensures (sym c.in-Some.ensures.value)))

pub returns-in-None-clause-row : goal.returns-in-None-clause-row
returns-in-None-clause-row g c = λ entries indexes.
    let none = channel_none c.args.self.now entries c.of.result (id_of c.in-Channel.id) indexes
    c.of.ensures (sym c.in-None.ensures.value) in
    rw (c.in-Channel.is, none) refl
