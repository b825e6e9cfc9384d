use Rattle.std.proofs.Common.{◌++◌, Err, ⊎_elim, ap, subst, sym, ◌∙◌}
use Rattle.gate_journal.specs.Batches.{HasPassed, StandsForSome}
use Rattle.archive_commands.proofs.Gathering.{front_read, tells_nothing, gathered_none}
use Rattle.archive_commands.proofs.Gathering.{gathered_by, gathered_stop, batch_put, batch_stopped}
use Rattle.archive_commands.proofs.listing.put_batches.Goals as goal

pub returns-in-Err-clause-gathers : goal.returns-in-Err-clause-gathers
returns-in-Err-clause-gathers g c =
    let pending = g.D.Disk.pending c.args.disk.now in
    rw c.end_of_reading.ensures
    (gathered_none pending (g.O.Sink.written c.args.output.now) (g.O.Sink.faults c.args.output.now)
    c.args.block.now.items c.requires.empty c.requires.whole c.in-Err.fault 0
    (λ is. tells_nothing pending c.requires.whole
    (c.in-Err.ensures.unfit (ap (λ f. Err f) is))))

pub put_batch-requires : goal.put_batch-requires
put_batch-requires g c =
    let going = c.loop-batches.invariant.0 in
    rw c.batch.ensures (c.a_batch_may_follow.ensures.storable going.entries c.next.new.self.batch
    (c.in-Ok-true.ensures.batch c.in-Ok-true.field-0-test going.entries
    (subst (λ d. HasPassed (g.D.Disk.pending d) going.entries c.loop-batches.batches)
    (sym c.loop-batches.invariant.1) going.passed)).knows.0)

pub returns-in_err-put_batch-in-Ok-true-clause-gathers :
    goal.returns-in_err-put_batch-in-Ok-true-clause-gathers
returns-in_err-put_batch-in-Ok-true-clause-gathers g c =
    let pending = g.D.Disk.pending c.args.disk.now in
    let going = c.loop-batches.invariant.0 in
    let batch = c.next.new.self.batch in
    let same = ⊎_elim (λ is. absurd cc) (λ same. same) c.in-Ok-true.ensures.same in
    let passed = subst
    (λ d. HasPassed (g.D.Disk.pending d) (going.entries ++ batch) c.next.new.self)
    (same ∙ c.loop-batches.invariant.1)
    (c.in-Ok-true.ensures.batch c.in-Ok-true.field-0-test going.entries
    (subst (λ d. HasPassed (g.D.Disk.pending d) going.entries c.loop-batches.batches)
    (sym c.loop-batches.invariant.1) going.passed)) in
    gathered_stop pending (g.O.Sink.written c.args.output.now)
    (g.O.Sink.written c.put_batch.new.output) (g.O.Sink.faults c.args.output.now)
    (g.O.Sink.faults c.put_batch.new.output)
    (going.entries ++ batch) c.put_batch.new.block.items
    c.in_err-put_batch-in-Ok-true.field-0.0 c.from_residual.result c.from_residual.ensures.1
    (front_read c.what_is_read_is_a_front.ensures pending (going.entries ++ batch) c.next.new.self
    c.requires.whole passed)
    (batch_stopped (g.O.Sink.written c.args.output.now) (g.O.Sink.written c.loop-batches.output)
    (g.O.Sink.faults c.args.output.now) (g.O.Sink.faults c.loop-batches.output)
    (g.O.Sink.written c.put_batch.new.output) (g.O.Sink.faults c.put_batch.new.output)
    going.entries batch c.loop-batches.block.items going.behind
    c.in_err-put_batch-in-Ok-true.field-0.0 c.from_residual.result c.from_residual.ensures.1
    (rw c.batch.ensures at c.in_err-put_batch-in-Ok-true.ensures.stopped))

pub loop-batches-preserved : goal.loop-batches-preserved
loop-batches-preserved g c =
    let going = c.loop-batches.invariant.0 in
    let batch = c.next.new.self.batch in
    let same = ⊎_elim (λ is. absurd cc) (λ same. same) c.in-Ok-true.ensures.same in (
      record {
        entries = going.entries ++ batch;
        passed = subst
            (λ d. HasPassed (g.D.Disk.pending d) (going.entries ++ batch) c.next.new.self)
            (same ∙ c.loop-batches.invariant.1)
            (c.in-Ok-true.ensures.batch c.in-Ok-true.field-0-test going.entries
            (subst (λ d. HasPassed (g.D.Disk.pending d) going.entries c.loop-batches.batches)
            (sym c.loop-batches.invariant.1) going.passed));
        behind = batch_put (g.O.Sink.written c.args.output.now)
            (g.O.Sink.written c.loop-batches.output) (g.O.Sink.faults c.args.output.now)
            (g.O.Sink.faults c.loop-batches.output) (g.O.Sink.written c.put_batch.new.output)
            (g.O.Sink.faults c.put_batch.new.output)
            going.entries batch c.loop-batches.block.items going.behind
            c.put_batch.new.block.items
            (rw c.batch.ensures at c.in_ok-put_batch-in-Ok-true.ensures.held);
      },
      same ∙ c.loop-batches.invariant.1,
    )

pub returns-in-Err-next-clause-gathers : goal.returns-in-Err-next-clause-gathers
returns-in-Err-next-clause-gathers g c =
    let pending = g.D.Disk.pending c.args.disk.now in
    let going = c.loop-batches.invariant.0 in
    rw c.end_of_reading-in-Err-next.ensures
    (gathered_by pending (g.O.Sink.written c.args.output.now)
    (g.O.Sink.written c.loop-batches.output)
    (g.O.Sink.faults c.args.output.now) (g.O.Sink.faults c.loop-batches.output) going.entries
    c.loop-batches.block.items going.behind
    (front_read c.what_is_read_is_a_front.ensures pending going.entries c.loop-batches.batches
    c.requires.whole going.passed) c.in-Err-next.fault c.gate.result
    (λ is. tells_nothing pending c.requires.whole
    (subst (λ d. HasPassed (g.D.Disk.pending d) going.entries c.loop-batches.batches
    → StandsForSome (g.D.Disk.pending d) → ⊥) c.loop-batches.invariant.1
    (c.in-Err-next.ensures.unfit (ap (λ f. Err f) is) going.entries) going.passed)))
