use Rattle.return_core.proofs.Longer.{look_stays, look_whole, front_is}
use Rattle.return_core.proofs.laws.a_wanted_look_is_one_at_its_front.Goals as goal

pub returns-clause-look : goal.returns-clause-look
returns-clause-look c = λ d entries later now answer. look_stays entries later d now answer

pub returns-clause-whole : goal.returns-clause-whole
returns-clause-whole c = λ d entries now answer. look_whole entries d now answer

pub returns-clause-front : goal.returns-clause-front
returns-clause-front c = front_is
