use Rattle.disk_model.specs.MemoryDisk.{steered}
use Rattle.gate_journal.specs.JournalState.{IsOldOrNew}
use Rattle.script_store.specs.Unmoved.{unmoved}
use Rattle.script_store.proofs.Disks.{to_steered}
use Rattle.script_store.proofs.Striking.{down_now}
use Rattle.script_store.proofs.storing.fail_power.Goals as goal

pub returns-clause-down : goal.returns-clause-down
returns-clause-down c = λ published rests.
    down_now c.a_stop_leaves_an_image.ensures.synced c.a_file_stands_for_one_list.ensures.list
    c.args.archive.now c.steer.new.self c.steer-2.new.self c.args.pick published rests
    (c.steer.ensures.at_rest rests.fresh)
    (rw c.stop_at_once.ensures at c.steer.ensures.steered)
    (rw c.no_orders.ensures at c.steer-2.ensures.steered)

pub returns-clause-images : goal.returns-clause-images
returns-clause-images c = λ published batch holds.
    let disk = c.args.archive.now.disk in
    let P = IsOldOrNew published batch in
    rw (c.steer-2.ensures.steered, c.steer.ensures.steered)
    (to_steered disk (steered disk c.stop_at_once.result) c.no_orders.result P
    (to_steered disk disk c.stop_at_once.result P (unmoved disk P holds)))
