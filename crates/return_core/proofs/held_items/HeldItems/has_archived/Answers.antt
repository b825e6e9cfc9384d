use Rattle.return_core.proofs.Filling.{any_item}
use Rattle.return_core.proofs.held_items.HeldItems.has_archived.Goals as goal

pub returns : goal.returns
returns c = rw (← c.items.ensures, any_item) c.any_archived.ensures
