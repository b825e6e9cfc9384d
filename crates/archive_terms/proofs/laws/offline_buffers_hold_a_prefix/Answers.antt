use Rattle.archive_terms.proofs.Prefixes.{offline_in_front}
use Rattle.archive_terms.proofs.laws.offline_buffers_hold_a_prefix.Goals as goal

pub returns : goal.returns
returns c = offline_in_front
