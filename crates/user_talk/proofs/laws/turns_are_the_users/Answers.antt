use Rattle.user_talk.proofs.Handed.{its_turns}
use Rattle.user_talk.proofs.laws.turns_are_the_users.Goals as goal

pub returns : goal.returns
returns c = its_turns
