use Rattle.record_form.proofs.EntriesRead.{stands, read_there}
use Rattle.record_form.proofs.laws.read_where_spelled.Goals as goal

pub returns : goal.returns
returns c = λ place octets entry end all. (
  stands place octets entry end all,
  read_there place octets entry end,
)
