use Rattle.std.proofs.Common.{◌≡◌, ◌≤◌, ◌-◌, IsTrue, length, map}
use Rattle.std.specs.List.{list_all}
use Rattle.archive_terms.specs.Archive.{is_valid}
use Rattle.octet_core.specs.Told.{Tells}
use Rattle.recorder.specs.Feeds.{gave}
use Rattle.recorder.proofs.step.poll.Given as goal

abbrev pub invariant-polls : goal.invariant-polls
invariant-polls g l = (length l.entries ≤ 256)
    × IsTrue (list_all is_valid l.entries)
    × (g.F.FrameSource.faults l.frames ≡ g.F.FrameSource.faults l.initial.frames)
    × Tells (g.F.FrameSource.answers l.initial.frames) (g.F.FrameSource.answers l.frames)
    (map gave l.entries)

abbrev pub decreases-polls : goal.decreases-polls
decreases-polls g l = 256 - length l.entries
