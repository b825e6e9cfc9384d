use Rattle.station_desk.proofs.NextLook.{front_is, look_is_next}
use Rattle.station_desk.proofs.buffers.look.Goals as goal

pub returns-clause-steps : goal.returns-clause-steps
returns-clause-steps g c = λ t rounds stands later.
    rw (front_is _ _ _ c.in_ok-glimpse.ensures) at (c.step.ensures.stands t _ rounds stands
    (look_is_next _ _ _ t _ rounds c.in_ok-glimpse.ensures c.want.ensures later))
