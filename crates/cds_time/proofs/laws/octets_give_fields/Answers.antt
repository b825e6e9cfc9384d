use Rattle.cds_time.specs.Facts.Octets.{given_by_micro, given_by_pico}
use Rattle.cds_time.proofs.laws.octets_give_fields.Goals as goal

pub returns : goal.returns
returns c = λ octets all. (given_by_micro octets all, given_by_pico octets all)
