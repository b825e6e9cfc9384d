use Rattle.return_core.proofs.Looks.{look_near}
use Rattle.return_core.proofs.laws.looks_are_of_archive.Goals as goal

pub returns : goal.returns
returns c = look_near
