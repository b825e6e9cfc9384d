use Rattle.record_form.specs.Facts.Storable.{storable_at}
use Rattle.gate_journal.proofs.writing.entries_length.Goals as goal

pub entry_length-size-requires : goal.entry_length-size-requires
entry_length-size-requires c =
    storable_at c.args.entries.now c.loop-entry.entry-index c.entry-item.result
    c.loop-entry-test.true c.entry-item.is c.requires.storable
