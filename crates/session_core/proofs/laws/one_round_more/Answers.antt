use Rattle.session_core.proofs.Longer as longer
use Rattle.session_core.proofs.laws.one_round_more.Goals as goal

pub returns : goal.returns
returns c = longer.one_round_more
