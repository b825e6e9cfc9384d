use Rattle.sample_lock.proofs.Serving.{Serving}
use Rattle.sample_lock.proofs.serve.serve_desk.Given as goal

abbrev pub invariant-orders : goal.invariant-orders
invariant-orders g l = Serving l.lock l.clerk l.initial.pass l.pass (g.D.Desk.told l.initial.desk)
    (g.D.Desk.told l.desk)

abbrev pub decreases-orders : goal.decreases-orders
decreases-orders g l = l.pass.left
