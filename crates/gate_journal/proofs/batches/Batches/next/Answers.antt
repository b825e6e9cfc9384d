use Rattle.std.proofs.Common.{◌≤◌, List, ℕ, subst, ◌++◌, length, Option, Some, IfSome}
use Rattle.gate_journal.specs.Batches.{HasPassed, batch_in}
use Rattle.gate_journal.specs.declared.order.Times.{Times}
use Rattle.gate_journal.proofs.Batching.{sliced, holds_there, standing}
use Rattle.gate_journal.proofs.Batching.{shut_next, batch_next, none_next, gate_is}
use Rattle.gate_journal.proofs.batches.Batches.next.Goals as goal

pub returns-in-Ok-None-clause-shut : goal.returns-in-Ok-None-clause-shut
returns-in-Ok-None-clause-shut g c is entries passed =
    let there = sliced c.self.inside.at c.fill.ensures.gate c.fill.ensures.times
    c.in_ok-fill.ensures.room c.self.view_is c.as_slice-room.ensures.value c.self.invariant.0
    passed in
    rw (← c.fill.ensures.gate, ← c.self.view_is)
    (shut_next c.read_where_spelled.ensures c.archive_grows.ensures.archive there c.slice.ensures
    c.read_back.ensures
    (gate_is _ c.in-Ok-None.field-0-is (c.in-Ok-None.ensures.exact entries there.passed.knows)))

pub returns-in-Err-clause-unfit : goal.returns-in-Err-clause-unfit
returns-in-Err-clause-unfit g c is entries passed stands =
    let there = sliced c.self.inside.at c.fill.ensures.gate c.fill.ensures.times
    c.in_ok-fill.ensures.room c.self.view_is c.as_slice-room.ensures.value c.self.invariant.0
    passed in
    none_next c.read_where_spelled.ensures c.archive_grows.ensures.archive there c.slice.ensures
    c.read_back.ensures (g.D.Disk.extent c.args.disk.now) c.in-Err.field-0
    (c.images_at_a_moment.ensures.size c.args.disk.now)
    (holds_there c.self.inside.at (g.D.Disk.extent c.args.disk.now) c.self.view_is
    c.as_slice-room.ensures.value c.in_ok-fill.ensures.holds)
    (c.in-Err.ensures.exact entries there.passed.knows) stands

pub returns-in-Ok-Some-clause-batch : goal.returns-in-Ok-Some-clause-batch
returns-in-Ok-Some-clause-batch g c is entries passed =
    let there = sliced c.self.inside.at c.fill.ensures.gate c.fill.ensures.times
    c.in_ok-fill.ensures.room c.self.view_is c.as_slice-room.ensures.value c.self.invariant.0
    passed in
    let found = gate_is _ c.in-Ok-Some.field-0-is
    (c.in-Ok-Some.ensures.exact entries there.passed.knows) in
    subst (λ (room : List ℕ). HasPassed (g.D.Disk.pending c.fill.new.disk)
    (entries ++ batch_in room (Some c.self.inside.at))
    (standing c.self.inside.start c.in-Ok-Some.end c.in-Ok-Some.times room
    (batch_in room (Some c.self.inside.at)))) c.as_slice-room.ensures.value
    (batch_next c.read_where_spelled.ensures c.archive_grows.ensures.archive there c.slice.ensures
    c.read_back.ensures (g.D.Disk.pending c.fill.new.disk) found.0 c.in-Ok-Some.times
    c.in-Ok-Some.end c.fill.ensures.reads.same found.1
    (subst (λ (f : Option (Times × ℕ)). IfSome f (λ p. p.1 ≤ length c.as_slice-room.result.now))
    c.in-Ok-Some.field-0-is c.in-Ok-Some.ensures.within) found.2)
