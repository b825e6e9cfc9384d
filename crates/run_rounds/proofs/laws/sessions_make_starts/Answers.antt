use Rattle.run_rounds.proofs.Joining.{runs_have_rounds}
use Rattle.run_rounds.proofs.laws.sessions_make_starts.Goals as goal

pub returns : goal.returns
returns g c =
    runs_have_rounds g.D.Disk.pending g.D.Disk.faults g.D.Disk.moment g.D.Disk.images_since
    g.D.Disk.makes g.D.Disk.fails g.D.Disk.fails_to_read g.F.FrameSource.answers
    g.F.FrameSource.faults g.A.Antenna.sent g.A.Antenna.faults g.G.Door.shown g.G.Door.faults
    g.G.Link.Link.calls g.G.Link.Link.faults g.C.Clock.readings c.rests_on.ensures
