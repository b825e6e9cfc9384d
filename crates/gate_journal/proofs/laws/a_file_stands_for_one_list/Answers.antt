use Rattle.gate_journal.proofs.Unique.{stands_for_one}
use Rattle.gate_journal.proofs.laws.a_file_stands_for_one_list.Goals as goal

pub returns-clause-list : goal.returns-clause-list
returns-clause-list c = λ one other file first second.
    (stands_for_one c.read_back.ensures one other first.0 second.0 file first.1 second.1).0

pub returns-clause-place : goal.returns-clause-place
returns-clause-place c = λ one other place there file first second.
    (stands_for_one c.read_back.ensures one other place there file first second).1
