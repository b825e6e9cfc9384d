use Rattle.std.proofs.Common.{List, sym, subst}
use Rattle.archive_terms.specs.Archive.{Entry}
use Rattle.disk_model.specs.MemoryDisk.{DiskState}
use Rattle.gate_journal.specs.JournalState.{IsOldOrNew}
use Rattle.script_store.specs.IsHeld.{HoldsAllOrNone, KeepsAllOrNone}
use Rattle.script_store.specs.Unmoved.{unmoved}
use Rattle.script_store.proofs.Disks.{restarts_and_opens}
use Rattle.script_store.proofs.Reopening.{found_left, rests_left}
use Rattle.script_store.proofs.storing.restart.Goals as goal
use Rattle.script_store.proofs.storing.restart.Goals.{After-open_anew}

pub returns-in_default-clause-images : goal.returns-in_default-clause-images
returns-in_default-clause-images c = λ published batch before.
    subst (λ (disk : DiskState). KeepsAllOrNone c.args.archive.now.disk disk published batch)
    (sym c.in_default.ensures.err)
    (unmoved c.args.archive.now.disk (IsOldOrNew published batch) before)

-- whatever became of the opening
opens : (c : After-open_anew) → (published batch : List Entry)
    → HoldsAllOrNone c.args.archive.now.disk published batch
    → KeepsAllOrNone c.args.archive.now.disk c.open_anew.new.self.disk published batch
opens c published batch before =
    restarts_and_opens c.a_sync_leaves_one_image.ensures c.args.archive.now.disk
    c.restart.new.self.disk c.open_anew.new.self.disk c.args.archive.now.disk.stopped
    c.in-Ok.ensures.ok c.in-Ok.ensures.image (IsOldOrNew published batch) before
    c.open_anew.ensures.any_moment

pub returns-in_default-open_anew-clause-images : goal.returns-in_default-open_anew-clause-images
returns-in_default-open_anew-clause-images c =
    opens (goal.at.returns-in_default-open_anew-clause-images c).After-open_anew

pub returns-clause-images : goal.returns-clause-images
returns-clause-images c = opens (goal.at.returns-clause-images c).After-open_anew

pub returns-clause-found : goal.returns-clause-found
returns-clause-found c = λ left down. found_left c.a_file_stands_for_one_list.ensures.list
    c.a_file_stands_for_one_list.ensures.place c.args.archive.now c.restart.new.self
    c.open_anew.new.self left c.in-Ok-open_anew.found down c.in-Ok.ensures.ok
    c.in-Ok-open_anew.ensures.stands

pub returns-clause-rests : goal.returns-clause-rests
returns-clause-rests c = λ left down. rests_left c.a_file_stands_for_one_list.ensures.list
    c.a_file_stands_for_one_list.ensures.place c.args.archive.now c.restart.new.self
    c.open_anew.new.self left c.in-Ok-open_anew.found down c.in-Ok.ensures.ok
    c.in-Ok-open_anew.ensures.stands c.restart.new.self.capacity c.in-Ok-open_anew.ensures.at_rest
    c.in-Ok-open_anew.ensures.acknowledged c.in-Ok-open_anew.ensures.calls
