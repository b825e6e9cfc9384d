use Rattle.station_config.proofs.Identity.{same_is}
use Rattle.station_config.proofs.draft.is_same.Goals as goal

pub returns : goal.returns
returns c = same_is c.args.one.now c.args.other.now c.names.result c.names.ensures
