use Rattle.station_config.specs.Identity.{same_id_decides}
use Rattle.assoc_core.proofs.laws.same_identifier.Goals as goal

pub returns : goal.returns
returns c = same_id_decides
