use Rattle.run_laws.proofs.Calling.{a_run_only_calls, a_refused_start_only_calls}
use Rattle.run_laws.proofs.laws.a_run_only_calls_its_disk.Goals as goal

pub returns-clause-ran : goal.returns-clause-ran
returns-clause-ran g c =
    a_run_only_calls g.D.Disk.pending g.D.Disk.faults g.D.Disk.moment g.D.Disk.images_since
    g.D.Disk.makes g.D.Disk.fails g.D.Disk.fails_to_read g.F.FrameSource.answers
    g.F.FrameSource.faults g.A.Antenna.sent g.A.Antenna.faults g.G.Door.shown g.G.Door.faults
    g.G.Link.Link.calls g.G.Link.Link.faults g.C.Clock.readings

pub returns-clause-refused : goal.returns-clause-refused
returns-clause-refused g c =
    a_refused_start_only_calls g.D.Disk.pending g.D.Disk.moment g.D.Disk.images_since
    g.D.Disk.makes g.D.Disk.fails g.D.Disk.fails_to_read
