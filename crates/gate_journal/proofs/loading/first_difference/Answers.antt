use Rattle.std.proofs.Common.{arith}
use Rattle.gate_journal.proofs.Header.{leads}
use Rattle.gate_journal.proofs.loading.first_difference.Goals as goal

pub returns-clause-header : goal.returns-clause-header
returns-clause-header c = leads c.args.file.now
    (λ k below. c.loop-place.invariant k (omega (arith, below, c.loop-place-test.false)))
