use Rattle.record_form.proofs.EntriesRead.{read_again}
use Rattle.record_form.proofs.laws.read_back.Goals as goal

pub returns : goal.returns
returns c = read_again
