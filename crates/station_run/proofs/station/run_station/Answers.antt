use Rattle.station_run.proofs.Results.{if_ok_map}
use Rattle.station_run.proofs.Starting.{left_at_opening, left_refused}
use Rattle.station_run.proofs.station.run_station.Goals as goal

pub returns-in-Ok-clause-ran : goal.returns-in-Ok-clause-ran
returns-in-Ok-clause-ran g c = if_ok_map _ _ c.run_opened-ran.result (λ report ran. record {
  entries = c.in-Ok.entries;
  used = c.in-Ok.archive.used;
  archive = c.in-Ok.archive;
  archive_now = c.run_opened-ran.new.archive;
  opened = c.in-Ok.ensures.at_rest;
  stands = c.in-Ok.ensures.stands;
  acknowledged = c.in-Ok.ensures.acknowledged;
  any_moment = c.in-Ok.ensures.any_moment;
  opening = c.in-Ok.ensures.calls;
  ran = ran;
  disk_is = c.into_disk.ensures;
}) c.run_opened-ran.ensures.ran

pub returns-in-Err-clause-refused : goal.returns-in-Err-clause-refused
returns-in-Err-clause-refused g c =
    c.start_fault.ensures.cause (g.D.Disk.pending c.args.disk) (g.D.Disk.faults c.args.disk)
    (g.D.Disk.faults c.in-Err.disk) c.in-Err.ensures.refused

pub returns-in-Err-clause-disk : goal.returns-in-Err-clause-disk
returns-in-Err-clause-disk g c =
    left_refused g.D.Disk.pending g.D.Disk.moment g.D.Disk.images_since g.D.Disk.makes
    g.D.Disk.fails g.D.Disk.fails_to_read c.args.disk c.in-Err.disk c.in-Err.fault
    c.start_fault.result c.start_fault.ensures.disk c.in-Err.ensures.any_moment_refused
    c.in-Err.ensures.refused_calls c.in-Err.ensures.failed_calls

pub returns-in-Ok-clause-disk : goal.returns-in-Ok-clause-disk
returns-in-Ok-clause-disk g c =
    left_at_opening g.D.Disk.pending g.D.Disk.moment g.D.Disk.images_since g.D.Disk.makes
    g.D.Disk.fails g.D.Disk.fails_to_read c.args.disk c.in-Ok.archive c.run_opened-ran.new.archive
    _ c.run_opened-ran.result c.run_opened-ran.ensures.fault c.run_opened-ran.ensures.kept
    c.into_disk.ensures c.in-Ok.ensures.any_moment c.in-Ok.ensures.calls
