use Rattle.std.proofs.Common.{◌≡◌, ◌⊎◌, IsErrOf, IfOk, IfErr}
use Rattle.recorder.specs.declared.record_fault.RecordFault.TheVariants as faults
use Rattle.script_store.specs.Storing.{StoresOne, LeavesOne}
use Rattle.script_store.proofs.OneEntry.{stored_one, left_one, images_one}
use Rattle.script_store.proofs.Taken.{capacity_now}
use Rattle.script_store.proofs.storing.record_given.Goals as goal
use Rattle.script_store.proofs.storing.record_given.Goals.{Joined-source}

sound : (g : _) (c : Joined-source g)
    → IsErrOf c.record_step.result faults.SourceFault ⊎ (c.record_step.new.frames.faults ≡ 0)
sound g c = rw c.new-source.ensures at c.record_step.ensures.sound

stored : (g : _) (c : Joined-source g) → IfOk c.record_step.result (λ recorded.
    StoresOne c.args.archive.now g.K.Given.entry c.record_step.new.archive recorded)
stored g c = stored_one c.args.archive.now c.record_step.new.archive g.K.Given.entry
    c.record_step.new.frames c.record_step.result (sound g c)
    (rw c.new-source.ensures at c.record_step.ensures.answer)

left : (g : _) (c : Joined-source g) → IfErr c.record_step.result (λ fault.
    LeavesOne fault c.args.archive.now g.K.Given.entry c.record_step.new.archive)
left g c = left_one c.args.archive.now c.record_step.new.archive g.K.Given.entry
    c.record_step.new.frames c.record_step.result (sound g c)
    (rw c.new-source.ensures at c.record_step.ensures.left)

pub returns-clause-stored : goal.returns-clause-stored
returns-clause-stored g c = rw c.requires.given (stored g c)

pub returns-clause-left : goal.returns-clause-left
returns-clause-left g c = rw c.requires.given (left g c)

pub returns-clause-images : goal.returns-clause-images
returns-clause-images g c =
    rw c.requires.given (images_one c.args.archive.now c.record_step.new.archive g.K.Given.entry
    c.record_step.new.frames c.record_step.result c.requires.rests (sound g c)
    c.record_step.ensures.nothing
    (rw c.new-source.ensures at c.record_step.ensures.any_moment))

pub returns-clause-capacity : goal.returns-clause-capacity
returns-clause-capacity g c =
    capacity_now c.args.archive.now c.record_step.new.archive g.K.Given.entry c.record_step.result
    (stored g c) (left g c)
