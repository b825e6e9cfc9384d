use Rattle.session_core.proofs.Kept.{messages_are_once}
use Rattle.session_core.proofs.laws.messages_are_offered_once.Goals as goal

pub returns : goal.returns
returns c = messages_are_once
