use Rattle.run_events.proofs.Running.{runs_are_events}
use Rattle.run_events.proofs.laws.a_run_is_events.Goals as goal

pub returns : goal.returns
returns g c =
    runs_are_events g.D.Disk.pending g.D.Disk.faults g.D.Disk.moment g.D.Disk.images_since
    g.D.Disk.makes g.D.Disk.fails g.D.Disk.fails_to_read g.F.FrameSource.answers
    g.F.FrameSource.faults g.A.Antenna.sent g.A.Antenna.faults g.G.Door.shown g.G.Door.faults
    g.G.Link.Link.calls g.G.Link.Link.faults g.C.Clock.readings c.rests_on.ensures
    c.archive_calls_are_events.ensures c.a_run_loses_nothing.ensures
