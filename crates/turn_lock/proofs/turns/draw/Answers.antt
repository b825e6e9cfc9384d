use Rattle.std.proofs.Common.{rules}
use Rattle.turn_lock.proofs.Keeping.{draws}
use Rattle.turn_lock.proofs.turns.draw.Goals as goal

pub fetch_add-requires : goal.fetch_add-requires
fetch_add-requires g c = (
  search rules,
  search rules,
  draws _ _ _ _ _ _ _ c.requires.table.1 c.requires.ready.0 c.requires.ready.1 c.requires.ready.2,
)
