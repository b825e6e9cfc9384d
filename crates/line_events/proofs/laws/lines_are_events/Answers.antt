use Rattle.line_events.proofs.Starts.{lines}
use Rattle.line_events.proofs.laws.lines_are_events.Goals as goal

pub returns : goal.returns
returns c = lines c.rests_on.ensures
