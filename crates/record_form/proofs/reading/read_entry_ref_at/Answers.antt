use Rattle.record_form.specs.Lent.{lent_entry}
use Rattle.record_form.proofs.Found.{found, within}
use Rattle.record_form.proofs.reading.read_entry_ref_at.Goals as goal

pub returns-clause-stands : goal.returns-clause-stands
returns-clause-stands c = found (λ read. (lent_entry read.0, read.1)) c.args.place c.args.octets.now
    c.entry_from.result c.read_where_spelled.ensures c.slice.ensures c.entry_from.ensures

pub returns-clause-within : goal.returns-clause-within
returns-clause-within c =
    within (λ read. (lent_entry read.0, read.1)) c.args.place c.args.octets.now c.entry_from.result
    c.requires
    (found (λ read. (lent_entry read.0, read.1)) c.args.place c.args.octets.now c.entry_from.result
    c.read_where_spelled.ensures c.slice.ensures c.entry_from.ensures)
