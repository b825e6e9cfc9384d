use Rattle.std.proofs.Common.{◌≡◌, ◌≤◌, drop}
use Rattle.command_words.specs.Number.{behind}
use Rattle.command_words.proofs.number.number_behind.Given as goal

abbrev pub invariant-loop-digit : goal.invariant-loop-digit
invariant-loop-digit l = record {
  same : behind l.so_far l.digits ≡ behind l.number (drop l.digit-index l.digits);
  some : 1 ≤ l.number;
  few : l.number ≤ 20000;
}
