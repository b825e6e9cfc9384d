use Rattle.std.proofs.lemmas.List.Folds.{list_all-map}
use Rattle.return_core.proofs.parts.are_of_archive.Goals as goal

pub returns : goal.returns
returns c = rw (← c.as_slice.ensures, list_all-map) c.all_of_archive.ensures
