use Rattle.std.proofs.Common.{length}
use Rattle.archive_terms.specs.Selection.{picked}
use Rattle.archive_terms.proofs.Places.{places_of, picked_rises, increasing_from_rises}
use Rattle.archive_terms.proofs.laws.picked_in_order.Goals as goal

pub returns : goal.returns
returns c = λ a s. increasing_from_rises 0 (length a) (places_of (picked a s)) (picked_rises a s)
