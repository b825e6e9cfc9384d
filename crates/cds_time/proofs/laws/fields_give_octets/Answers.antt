use Rattle.cds_time.specs.Facts.Octets.{given_again, octets_all}
use Rattle.cds_time.proofs.laws.fields_give_octets.Goals as goal

pub returns : goal.returns
returns c = λ time fits. (octets_all time, given_again time fits)
