use Rattle.std.specs.List.{list_all}
use Rattle.std.proofs.lemmas.Bool.{and_parts}
use Rattle.archive_terms.specs.Archive.{is_storable}
use Rattle.record_form.specs.Lent.{lent_entry}
use Rattle.drill_text.specs.Reading.{entry_text}
use Rattle.archive_commands.specs.Archives.{offered, entries_text}
use Rattle.archive_commands.proofs.Blocks.{line_on, line_stopped}
use Rattle.archive_commands.proofs.Gathering.{on_err}
use Rattle.archive_commands.proofs.listing.put_batch.Goals as goal

pub put_entry-requires : goal.put_entry-requires
put_entry-requires g c =
    (and_parts (is_storable (lent_entry c.in-Some.entry)) (list_all is_storable c.next.new.self)
    (rw c.in-Some.ensures at c.loop-entry.invariant.0)).0

pub returns-in_err-put_entry-clause-stopped : goal.returns-in_err-put_entry-clause-stopped
returns-in_err-put_entry-clause-stopped g c =
    on_err c.from_residual.result (line_stopped _ _ _ _ _ _ _ c.loop-entry.block.items
    (entry_text (offered (lent_entry c.in-Some.entry))) (entries_text c.next.new.self)
    (rw c.in-Some.ensures at c.loop-entry.invariant.1)
    c.in_err-put_entry.field-0.0 c.from_residual.result c.from_residual.ensures.1
    c.in_err-put_entry.ensures.stopped)

pub loop-entry-preserved : goal.loop-entry-preserved
loop-entry-preserved g c = (
  (and_parts (is_storable (lent_entry c.in-Some.entry)) (list_all is_storable c.next.new.self)
      (rw c.in-Some.ensures at c.loop-entry.invariant.0)).1,
  line_on _ _ _ _ _ _ _ c.loop-entry.block.items
      (entry_text (offered (lent_entry c.in-Some.entry))) (entries_text c.next.new.self)
      (rw c.in-Some.ensures at c.loop-entry.invariant.1) _ c.in_ok-put_entry.ensures.held,
)
