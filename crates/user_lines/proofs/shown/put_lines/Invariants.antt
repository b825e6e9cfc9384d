use Rattle.std.proofs.Common.{◌≡◌, length}
use Rattle.user_lines.specs.Shown.{shown_of, all_told}
use Rattle.user_lines.proofs.Written.{Behind}
use Rattle.user_lines.proofs.shown.put_lines.Given as goal

abbrev pub invariant-loop-message : goal.invariant-loop-message
invariant-loop-message g l = record {
  text : Behind (g.S.Sink.written l.fn.output) (g.S.Sink.written l.output)
      (g.S.Sink.faults l.fn.output) (g.S.Sink.faults l.output)
      (shown_of l.service l.fn.messages).text (shown_of l.service l.messages).text;
  bad : (shown_of l.service l.fn.messages).bad ≡ (shown_of l.service l.messages).bad;
  told : all_told l.service l.fn.messages ≡ all_told l.service l.messages;
  place : l.place ≡ l.messages.place;
}

abbrev pub decreases-loop-message : goal.decreases-loop-message
decreases-loop-message g l = length l.messages.messages
