use Rattle.ber_core.specs.Facts.Whole.{read_trees-at}
use Rattle.ber_core.proofs.laws.all_spelled_are_read.Goals as goal

pub returns : goal.returns
returns c = λ ts view new spelled rest spells passes shallow.
    read_trees-at ts view new spelled rest spells passes.0 passes.1 shallow
