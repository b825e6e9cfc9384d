use Rattle.std.proofs.Common.{◌++◌, take, append_assoc}
use Rattle.std.proofs.lemmas.List.{take_all, take_more, map_push}
use Rattle.record_form.specs.Entry.{entry_of, entries_of}
use Rattle.gate_journal.proofs.order.pass.Goals as goal

pub loop-entry-preserved : goal.loop-entry-preserved
loop-entry-preserved c earlier knows =
    let front = take c.loop-entry.entry-index c.args.entries.now in
    let entry = c.entry-item.result in
    rw (
      take_more c.args.entries.now c.loop-entry.entry-index entry c.loop-entry-test.true,
      ← c.entry-item.is,
      map_push entry_of front entry,
    )
    (rw append_assoc at (c.next-times.ensures (earlier ++ entries_of front)
    (c.loop-entry.invariant earlier knows)))

pub returns : goal.returns
returns c earlier knows =
    rw (take_all c.loop-entry.entry-index c.args.entries.now c.loop-entry-test.false)
    at (c.loop-entry.invariant earlier knows)
