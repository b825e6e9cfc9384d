use Rattle.std.proofs.Common.{◌≡◌, length}
use Rattle.user_core.specs.Hearing.{heard_unread, all_given}
use Rattle.user_core.proofs.dialogue.Dialogue.hear_all.Given as goal

abbrev pub invariant-loop-message : goal.invariant-loop-message
invariant-loop-message l = record {
  talk : heard_unread l.task l.now l.fn.messages l.fn.self
      ≡ heard_unread l.task l.now l.messages l.self;
  given : all_given l.fn.messages ≡ all_given l.messages;
  place : l.place ≡ l.messages.place;
}

abbrev pub decreases-loop-message : goal.decreases-loop-message
decreases-loop-message l = length l.messages.messages
