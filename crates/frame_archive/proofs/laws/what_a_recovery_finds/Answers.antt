use Rattle.frame_archive.proofs.Running.{run_stands, in_a_store}
use Rattle.frame_archive.proofs.laws.what_a_recovery_finds.Goals as goal

pub returns-clause-at_rest : goal.returns-clause-at_rest
returns-clause-at_rest g c archive course image entries run is stands =
    run_stands c.a_file_stands_for_one_list.ensures.list g.D.Disk.pending archive course image
    entries run is stands

pub returns-clause-in_a_store : goal.returns-clause-in_a_store
returns-clause-in_a_store g c archive course image entries run during stands =
    in_a_store c.a_file_stands_for_one_list.ensures.list g.D.Disk.pending archive course image
    entries run during stands
