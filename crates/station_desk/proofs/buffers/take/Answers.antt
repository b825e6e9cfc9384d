use Rattle.station_desk.proofs.Advancing.{taken}
use Rattle.station_desk.proofs.buffers.take.Goals as goal

pub returns-clause-taken : goal.returns-clause-taken
returns-clause-taken c = λ s entries count way.
    taken c.args.delivery.now c.settle.new.self c.settle.ensures.after c.settle.ensures.stands s
    entries count way
