use Rattle.std.proofs.Common.{List, [], inl, rules}
use Rattle.archive_terms.specs.Archive.{Entry}
use Rattle.gate_journal.specs.JournalState.{IsOldOrNew}
use Rattle.script_store.specs.IsHeld.{begun_list, HoldsAllOrNone, KeepsAllOrNone}
use Rattle.script_store.proofs.Disks.{at_end, then_on}
use Rattle.script_store.proofs.Moments.{holds_alone}
use Rattle.script_store.proofs.Worlds.{held_spent, held_found}
use Rattle.script_store.proofs.script_recorder.Recorder.fail_power.Goals as goal
use Rattle.script_store.proofs.script_recorder.Recorder.fail_power.Goals.{After-restart}

-- whatever became of the opening: it leaves what there was before
leaves : (c : After-restart) → (batch : List Entry)
    → HoldsAllOrNone c.self.inside.archive.disk c.self.inside.published batch
    → KeepsAllOrNone c.self.inside.archive.disk c.restart.new.archive.disk c.self.inside.published
    batch
leaves c batch before =
    let P = IsOldOrNew c.self.inside.published batch in
    let failed = c.fail_power.ensures.images c.self.inside.published batch before in
    then_on c.self.inside.archive.disk c.fail_power.new.archive.disk c.restart.new.archive.disk P
    failed (c.restart.ensures.images c.self.inside.published batch
    (at_end c.self.inside.archive.disk c.fail_power.new.archive.disk P failed))

moved : (c : After-restart)
    → KeepsAllOrNone c.self.inside.archive.disk c.restart.new.archive.disk c.self.inside.published
    []
moved c = leaves c [] (λ image is. inl (holds_alone c.self.inside c.self.invariant
    (rw (← c.self.view_is) at c.requires.ready) image is))

pub invariant_of-self : goal.invariant_of-self
invariant_of-self c =
    let begun = begun_list c.self.inside.begun in
    held_spent c.restart.new.archive c.self.inside.published c.self.inside.times c.self.inside.begun
    c.self.inside.order (at_end c.self.inside.archive.disk c.restart.new.archive.disk
    (IsOldOrNew c.self.inside.published begun)
    (leaves (goal.at.invariant_of-self c).After-restart begun c.self.invariant.images))
    c.self.invariant.to_come

pub returns-in_err-found-clause-images : goal.returns-in_err-found-clause-images
returns-in_err-found-clause-images c =
    rw (← c.self.view_is) (moved (goal.at.returns-in_err-found-clause-images c).After-restart)

pub returns-clause-images : goal.returns-clause-images
returns-clause-images c =
    rw (← c.self.view_is) (moved (goal.at.returns-clause-images c).After-restart)

pub invariant_of-self-2 : goal.invariant_of-self-2
invariant_of-self-2 c =
    let ready = c.self.invariant.ready (rw (← c.self.view_is) at c.requires.ready) in
    let down = c.fail_power.ensures.down c.self.inside.published ready.rests in
    held_found c.restart.new.archive c.self.inside.published c.in_ok-found.found c.self.inside.times
    c.self.inside.begun _ c.an_image_at_rest_stands_for_what_is_kept.ensures
    (c.in_ok-found.ensures.found c.self.inside.published down)
    (c.in_ok-found.ensures.rests c.self.inside.published down) ready.times_are ready.none_begun
    (search rules)
