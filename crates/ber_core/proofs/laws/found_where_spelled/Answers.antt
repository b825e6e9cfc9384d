use Rattle.ber_core.specs.Facts.Found.{next_content-Stands, Stands-next_content}
use Rattle.ber_core.proofs.laws.found_where_spelled.Goals as goal

pub returns : goal.returns
returns c = λ view tag content start octets. (
  next_content-Stands view tag content start octets,
  Stands-next_content view tag content start,
)
