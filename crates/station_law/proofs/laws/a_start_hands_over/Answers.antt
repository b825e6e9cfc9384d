use Rattle.std.proofs.Common.{None}
use Rattle.station_desk.specs.Start.{desk_buffers}
use Rattle.station_law.specs.DeskFacts.{hands_over, items_told}
use Rattle.station_law.proofs.laws.a_start_hands_over.Goals as goal

pub returns : goal.returns
returns c = record {
  last = λ state first last quality starts. hands_over state first last quality starts;
  buffers = λ entries first last quality.
      items_told entries None (desk_buffers entries first last quality);
}
