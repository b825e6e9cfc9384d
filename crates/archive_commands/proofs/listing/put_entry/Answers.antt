use Rattle.std.proofs.Common.{refl}
use Rattle.script_store.specs.declared.stop.Stop.TheVariants.{Memory}
use Rattle.record_form.specs.Lent.{lent_entry}
use Rattle.drill_text.specs.Reading.{entry_text}
use Rattle.archive_commands.specs.Archives.{offered}
use Rattle.archive_commands.proofs.Blocks.{put_on, put_halted, not_put}
use Rattle.archive_commands.proofs.listing.put_entry.Goals as goal

pub returns-in_err-append_entry_line-clause-stopped
    : goal.returns-in_err-append_entry_line-clause-stopped
returns-in_err-append_entry_line-clause-stopped g c =
    not_put _ _ _ Memory c.from_residual.result c.from_residual.ensures.1 refl

pub returns-clause-held : goal.returns-clause-held
returns-clause-held g c =
    put_on _ _ _ _ c.args.block.now.items
    (entry_text (offered (lent_entry c.args.entry))) _ _ c.in_ok-append_entry_line.ensures
    c.put_full.result
    c.put_full.ensures.written

pub returns-clause-stopped : goal.returns-clause-stopped
returns-clause-stopped g c =
    put_halted _ _ _ _ c.args.block.now.items
    (entry_text (offered (lent_entry c.args.entry))) _ _ c.in_ok-append_entry_line.ensures
    c.put_full.result
    c.put_full.ensures.written
