use Rattle.std.proofs.Common.{ap, ◌∙◌}
use Rattle.ber_core.specs.Reading.{integer_of}
use Rattle.ber_core.specs.Facts.Read.{integer_of-spelled, integer_of-integer_octets}
use Rattle.ber_core.proofs.laws.integer_where_spelled.Goals as goal

pub returns : goal.returns
returns c = λ least greatest z place content octets. (
  integer_of-spelled least greatest z place content octets,
  λ (spelled, bits, low, high). ap (integer_of least greatest place) spelled
      ∙ integer_of-integer_octets least greatest z place bits low high,
)
