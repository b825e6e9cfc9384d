use Rattle.turn_lock.proofs.Owned.{all_beside, all_apart, times_beside, total_beside}
use Rattle.turn_lock.proofs.laws.own_events_of_joined_passes.Goals as goal

pub returns-clause-stand : goal.returns-clause-stand
returns-clause-stand g c = all_beside

pub returns-clause-apart : goal.returns-clause-apart
returns-clause-apart g c = all_apart

pub returns-clause-places : goal.returns-clause-places
returns-clause-places g c = times_beside

pub returns-clause-number : goal.returns-clause-number
returns-clause-number g c = total_beside
