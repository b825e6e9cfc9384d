use Rattle.station_world.proofs.Archives.{archive_law}
use Rattle.station_world.proofs.laws.archive_calls_are_events.Goals as goal

pub returns : goal.returns
returns g c = archive_law c.follows_by_last_times.ensures.archive c.a_file_stands_for_one_list.ensures.list
    g.D.Disk.pending
