use Rattle.std.proofs.Common.{refl}
use Rattle.turn_lock.proofs.Prefixes.{prefix_self, prefix_trans, prefix_within}
use Rattle.turn_lock.proofs.laws.fronts_compose.Goals as goal

pub returns-clause-itself : goal.returns-clause-itself
returns-clause-itself g c = prefix_self

pub returns-clause-goes_on : goal.returns-clause-goes_on
returns-clause-goes_on g c = λ xs ys. (ys, refl)

pub returns-clause-through : goal.returns-clause-through
returns-clause-through g c = prefix_trans

pub returns-clause-within : goal.returns-clause-within
returns-clause-within g c = prefix_within
