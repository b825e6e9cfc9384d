use Rattle.std.proofs.Common.{[], slice_index_or}
use Rattle.archive_terms.specs.Delivery.{cut}
use Rattle.archive_terms.proofs.Buffers.{InLimits-length}
use Rattle.archive_terms.proofs.Cuts.{IsCut, join-cut_onto, open_nothing, all_cut}
use Rattle.archive_terms.proofs.Cuts.{complete_before_last}
use Rattle.archive_terms.proofs.laws.cut_into_buffers.Goals as goal

pub returns-clause-joined : goal.returns-clause-joined
returns-clause-joined c = λ size items. join-cut_onto size items []

pub returns-clause-buffers : goal.returns-clause-buffers
returns-clause-buffers c = λ size items some k d below.
    let is_cut : IsCut size (slice_index_or (cut size items) k d) =
    all_cut size items [] some (open_nothing size some) k d below in
    record {
      few = InLimits-length size (slice_index_or (cut size items) k d) is_cut.0;
      open_before = is_cut.0.open_before;
    }

pub returns-clause-none_empty : goal.returns-clause-none_empty
returns-clause-none_empty c =
    λ size items some k d below. (all_cut size items [] some (open_nothing size some) k d below).1

pub returns-clause-complete : goal.returns-clause-complete
returns-clause-complete c = λ size items k more. complete_before_last size items [] k more
