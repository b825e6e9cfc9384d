use Rattle.session_core.proofs.Whole.{whole_stream}
use Rattle.session_core.proofs.laws.whole_messages_are_a_stream.Goals as goal

pub returns : goal.returns
returns c = whole_stream c.spelled_is_read.ensures.all
