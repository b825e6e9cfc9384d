use Rattle.line_events.proofs.Progress.{of_its_door}
use Rattle.line_events.proofs.laws.progress_is_of_its_door.Goals as goal

pub returns : goal.returns
returns c = of_its_door
