use Rattle.record_form.specs.Facts.Storable.{storable_at}
use Rattle.gate_journal.proofs.writing.write_entries.Goals as goal

pub write_entry-requires : goal.write_entry-requires
write_entry-requires c =
    storable_at c.args.entries.now c.loop-entry.entry-index c.entry-item.result
    c.loop-entry-test.true c.entry-item.is c.requires
