use Rattle.session_core.proofs.Blocks.{each_block_once}
use Rattle.session_core.proofs.laws.each_block_is_handed_over_once.Goals as goal

pub returns : goal.returns
returns c = each_block_once c.parts_of_two_runs_join.ensures.blocks
