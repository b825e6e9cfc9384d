use Rattle.archive_laws.proofs.Runs.{complete}
use Rattle.archive_laws.proofs.laws.stores_are_complete.Goals as goal

pub returns : goal.returns
returns g c = complete g.D.Disk.faults
