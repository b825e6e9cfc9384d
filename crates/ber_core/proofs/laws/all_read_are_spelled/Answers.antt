use Rattle.ber_core.specs.Facts.Whole.{read_trees-ok}
use Rattle.ber_core.proofs.laws.all_read_are_spelled.Goals as goal

pub returns : goal.returns
returns c = λ ts view new octets shallow e. let read = read_trees-ok ts view new octets shallow e in
    (read.spelled, read.rest, read.is, (read.front, read.moved), read.shallow)
