use Rattle.station_law.proofs.Telling.{told, untold}
use Rattle.station_law.proofs.world.World.crash_now.Goals as goal

pub returns-in_err-put-clause-does : goal.returns-in_err-put-clause-does
returns-in_err-put-clause-does g c = untold c.in_ok-outcome.ensures.steps.taken _ _ _ _
    c.in_err-put.field-0.0 c.from_residual-in_err-put.result c.from_residual-in_err-put.ensures.1
    c.in_err-put.ensures

pub returns-clause-does : goal.returns-clause-does
returns-clause-does g c =
    rw c.done.ensures (told c.in_ok-outcome.ensures.steps.taken _ _ _ _ _ c.in_ok-put.ensures)
