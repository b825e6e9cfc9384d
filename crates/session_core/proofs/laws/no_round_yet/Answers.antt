use Rattle.session_core.proofs.Longer as longer
use Rattle.session_core.proofs.laws.no_round_yet.Goals as goal

pub returns : goal.returns
returns c = longer.no_round_yet
