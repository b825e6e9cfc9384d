use Rattle.archive_commands.proofs.Gathering.{put_stopped}
use Rattle.archive_commands.proofs.listing.put_file.Goals as goal

pub returns-in_err-put_block-clause-puts : goal.returns-in_err-put_block-clause-puts
returns-in_err-put_block-clause-puts g c =
    put_stopped _ _ _ _ _ _ _ _ _ c.in_ok-ending.ending c.in_err-put_block.field-0.0
    c.from_residual-in_err-put_block.result c.from_residual-in_err-put_block.ensures.1
    c.in_ok-ending.ensures.gathers c.in_err-put_block.ensures.written
