use Rattle.script_store.proofs.Moments.{holds_alone}
use Rattle.script_store.proofs.WorldArchives.{is_archive}
use Rattle.script_store.proofs.script_recorder.Recorder.disk.Goals as goal

pub returns-clause-images : goal.returns-clause-images
returns-clause-images c = rw (c.disk.ensures, ← c.self.view_is) c.self.invariant.images

pub returns-clause-archive : goal.returns-clause-archive
returns-clause-archive c = rw (← c.self.view_is) (λ ready. is_archive c.self.inside.archive
    c.self.inside.published (c.self.invariant.ready ready).rests)

pub returns-clause-alone : goal.returns-clause-alone
returns-clause-alone c =
    rw (c.disk.ensures, ← c.self.view_is) (holds_alone c.self.inside c.self.invariant)
