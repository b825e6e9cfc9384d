use Rattle.session_events.proofs.Rounds.{rounds_may}
use Rattle.session_events.proofs.laws.what_a_round_makes_may_come.Goals as goal

pub returns : goal.returns
returns c = rounds_may
