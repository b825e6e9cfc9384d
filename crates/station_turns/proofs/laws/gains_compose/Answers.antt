use Rattle.station_turns.proofs.Gaining.{gains_none, gains_one, gains_left, gains_both}
use Rattle.station_turns.proofs.laws.gains_compose.Goals as goal

pub returns-clause-none : goal.returns-clause-none
returns-clause-none c = gains_none

pub returns-clause-one : goal.returns-clause-one
returns-clause-one c = gains_one

pub returns-clause-left : goal.returns-clause-left
returns-clause-left c = gains_left

pub returns-clause-both : goal.returns-clause-both
returns-clause-both c = gains_both
