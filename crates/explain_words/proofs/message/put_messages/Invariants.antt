use Rattle.std.proofs.Common.{length}
use Rattle.explain_words.proofs.message.put_messages.Given as goal

abbrev pub decreases-loop-message : goal.decreases-loop-message
decreases-loop-message l = length l.messages.messages
