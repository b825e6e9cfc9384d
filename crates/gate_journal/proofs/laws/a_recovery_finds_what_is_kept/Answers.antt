use Rattle.gate_journal.proofs.Following.{found_is_kept}
use Rattle.gate_journal.proofs.laws.a_recovery_finds_what_is_kept.Goals as goal

pub returns : goal.returns
returns c = found_is_kept c.read_back.ensures
