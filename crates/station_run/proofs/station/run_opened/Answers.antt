use Rattle.std.proofs.Common.{rules}
use Rattle.station_run.proofs.station.run_opened.Goals as goal

pub returns-clause-ran : goal.returns-clause-ran
returns-clause-ran g c = record {
  lock = c.in_ok-station.station;
  origin = search rules;
  recorder_pass = c.in_ok-crew.crew.recorder.pass;
  recorder_now = c.run_crew.new.recorder.pass;
  recorder_fresh = c.in_ok-crew.ensures.recorder;
  records = rw c.finish.ensures.ended.0 c.run_crew.ensures.records;
  antenna_pass = c.in_ok-crew.crew.antenna.pass;
  antenna_now = c.run_crew.new.seat.pass;
  antenna_fresh = c.in_ok-crew.ensures.antenna;
  radiates = rw c.finish.ensures.ended.1 c.run_crew.ensures.radiates;
  seats = c.in_ok-crew.crew.doors.items;
  seats_now = c.run_crew.new.seats.items;
  seats_fresh = c.in_ok-crew.ensures.doors.1;
  works = c.run_crew.ensures.served.works;
  reports = c.finish.ensures.reports;
  history = c.finish.ensures.history;
  published = c.finish.ensures.published;
}
