use Rattle.frame_archive.proofs.Holding.{one_acknowledged}
use Rattle.frame_archive.proofs.laws.an_archive_acknowledges_one_list.Goals as goal

pub returns : goal.returns
returns g c archive one other first second =
    one_acknowledged c.a_file_stands_for_one_list.ensures.list g.D.Disk.pending archive one other
    (c.images_at_a_moment.ensures.read archive.disk) first second
