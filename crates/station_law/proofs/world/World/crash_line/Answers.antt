use Rattle.script_store.specs.Unmoved.{left_alone}
use Rattle.station_law.proofs.world.World.crash_line.Goals as goal

pub returns-then-k-eq0-clause-does : goal.returns-then-k-eq0-clause-does
returns-then-k-eq0-clause-does g c = rw c.if-k-eq0.true c.crash_now.ensures.does

pub returns-clause-images : goal.returns-clause-images
returns-clause-images g c =
    rw (← c.self.view_is) (λ alone. left_alone _ _ _ _ c.order.ensures.disk alone)
