use Rattle.ber_core.specs.Facts.Whole.{read_tree-ok, read_tree-at}
use Rattle.ber_core.proofs.laws.read_where_spelled.Goals as goal

pub returns : goal.returns
returns c = λ t view new octets. (
  λ e. let read = read_tree-ok t view new octets e in
      (read.spelled, read.rest, read.is, (read.front, read.moved), read.shallow),
  λ (spelled, rest, spells, passes, shallow). read_tree-at t view new spelled rest spells passes.0
      passes.1 shallow,
)
