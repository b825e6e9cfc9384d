use Rattle.std.proofs.Common.{◌≡◌, [], false}
use Rattle.tests_recorder.proofs.tests.record.Given as goal

abbrev pub invariant-words : goal.invariant-words
invariant-words l = (l.archive.waiting ≡ []) × (l.archive.is_stale ≡ false)
