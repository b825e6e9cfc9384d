use Rattle.station_book.proofs.Doors.{instance_stays_over, run_stays_over, lost_stays_over}
use Rattle.station_book.proofs.laws.other_doors_leave_a_door.Goals as goal

pub returns-clause-instance : goal.returns-clause-instance
returns-clause-instance c = instance_stays_over

pub returns-clause-run : goal.returns-clause-run
returns-clause-run c = run_stays_over

pub returns-clause-lost : goal.returns-clause-lost
returns-clause-lost c = lost_stays_over
