use Rattle.command_ends.proofs.Closing.{closes_by}
use Rattle.archive_commands.proofs.archive_file.list_entries.Goals as goal

pub returns : goal.returns
returns g c = closes_by _ _ _ _ _ _ _ c.put_all.result c.close.ensures
    (rw c.as_slice.ensures at c.put_all.ensures)
