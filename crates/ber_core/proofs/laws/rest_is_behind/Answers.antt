use Rattle.ber_core.specs.Facts.Moves.{left-behind}
use Rattle.ber_core.proofs.laws.rest_is_behind.Goals as goal

pub returns : goal.returns
returns c = left-behind
