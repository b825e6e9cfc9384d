use Rattle.ber_core.specs.Facts.Read.{integer_of-integer_octets}
use Rattle.ber_core.specs.Facts.Twos.{IsKept-integer_octets}
use Rattle.ber_core.proofs.laws.integer_read_back.Goals as goal

pub returns : goal.returns
returns c = λ least greatest z place bits low high. (
  (IsKept-integer_octets z).octets_all,
  integer_of-integer_octets least greatest z place bits low high,
)
