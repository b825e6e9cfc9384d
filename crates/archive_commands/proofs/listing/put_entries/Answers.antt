use Rattle.std.proofs.Common.{◌+◌, drop}
use Rattle.record_form.specs.Entry.{entry_of, entries_of}
use Rattle.record_form.specs.Facts.Storable.{storable_at}
use Rattle.drill_text.specs.Reading.{entry_text}
use Rattle.archive_commands.specs.Archives.{offered, entries_text}
use Rattle.archive_commands.proofs.Blocks.{line_on, line_stopped}
use Rattle.archive_commands.proofs.Gathering.{on_err}
use Rattle.archive_commands.proofs.Lists.{next_line}
use Rattle.archive_commands.proofs.listing.put_entries.Goals as goal

pub put_entry-requires : goal.put_entry-requires
put_entry-requires g c = rw c.lend.ensures (storable_at c.args.entries.now
    c.loop-entry.entry-index c.entry-item.result c.loop-entry-test.true c.entry-item.is c.requires)

pub returns-in_err-put_entry-clause-stopped : goal.returns-in_err-put_entry-clause-stopped
returns-in_err-put_entry-clause-stopped g c =
    on_err c.from_residual.result (line_stopped _ _ _ _ _ _ _ c.loop-entry.block.items
    (entry_text (offered (entry_of c.entry-item.result)))
    (entries_text (entries_of (drop (c.loop-entry.entry-index + 1) c.args.entries.now)))
    (rw (next_line c.args.entries.now c.loop-entry.entry-index c.entry-item.result
    c.loop-entry-test.true c.entry-item.is) at c.loop-entry.invariant.behind)
    c.in_err-put_entry.field-0.0 c.from_residual.result c.from_residual.ensures.1
    (rw c.lend.ensures at c.in_err-put_entry.ensures.stopped))

pub loop-entry-preserved : goal.loop-entry-preserved
loop-entry-preserved g c = record {
  behind = line_on _ _ _ _ _ _ _ c.loop-entry.block.items
      (entry_text (offered (entry_of c.entry-item.result)))
      (entries_text (entries_of (drop (c.loop-entry.entry-index + 1) c.args.entries.now)))
      (rw (next_line c.args.entries.now c.loop-entry.entry-index c.entry-item.result
      c.loop-entry-test.true c.entry-item.is) at c.loop-entry.invariant.behind) _
      (rw c.lend.ensures at c.in_ok-put_entry.ensures.held);
}
