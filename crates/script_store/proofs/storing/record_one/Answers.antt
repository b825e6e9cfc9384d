use Rattle.record_form.specs.Entry.{entry_of}
use Rattle.script_store.proofs.Taken.{fault_missed, count_missed}
use Rattle.script_store.proofs.storing.record_one.Goals as goal

pub returns-else-not-wants_memory-clause-missed : goal.returns-else-not-wants_memory-clause-missed
returns-else-not-wants_memory-clause-missed c =
    rw c.begun_with.ensures (count_missed c.args.archive.now c.record_given-recorded.new.archive
    (entry_of c.args.entry) c.requires.rests c.in-Ok.recorded c.len.result c.len.ensures
    c.in-Ok.ensures.stored c.record_given-recorded.ensures.images)

pub returns-else-not-wants_memory-2-clause-missed : goal.returns-else-not-wants_memory-2-clause-missed
returns-else-not-wants_memory-2-clause-missed c =
    rw c.begun_with-in-Err.ensures (fault_missed c.args.archive.now
    c.record_given-recorded.new.archive (entry_of c.args.entry) c.requires.rests c.in-Err.fault
    c.waiting.result c.waiting.ensures c.in-Err.ensures.left c.in-Err.ensures.still)
