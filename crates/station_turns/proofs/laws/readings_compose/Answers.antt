use Rattle.station_turns.proofs.Readings.{reads_none, reads_both}
use Rattle.station_turns.proofs.laws.readings_compose.Goals as goal

pub returns-clause-none : goal.returns-clause-none
returns-clause-none c = reads_none

pub returns-clause-both : goal.returns-clause-both
returns-clause-both c = reads_both
