use Rattle.std.proofs.Common.{length}
use Rattle.capture_cli.proofs.capture.File.put_messages.Given as goal

abbrev pub decreases-loop-messages : goal.decreases-loop-messages
decreases-loop-messages l = length l.messages.messages
