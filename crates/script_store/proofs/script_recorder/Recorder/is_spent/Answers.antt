use Rattle.script_store.proofs.Moments.{holds_alone}
use Rattle.script_store.proofs.script_recorder.Recorder.is_spent.Goals as goal

pub returns-clause-alone : goal.returns-clause-alone
returns-clause-alone c = rw (← c.self.view_is) (holds_alone c.self.inside c.self.invariant)
