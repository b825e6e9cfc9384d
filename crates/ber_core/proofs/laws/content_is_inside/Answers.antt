use Rattle.ber_core.specs.Facts.Moves.{left-inside}
use Rattle.ber_core.proofs.laws.content_is_inside.Goals as goal

pub returns : goal.returns
returns c = left-inside
