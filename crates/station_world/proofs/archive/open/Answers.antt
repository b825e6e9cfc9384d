use Rattle.std.proofs.Common.{ap}
use Rattle.frame_archive.specs.State.{ArchiveState}
use Rattle.station_world.proofs.Results.{of_value, told_so}
use Rattle.station_world.proofs.archive.open.Goals as goal

pub returns-clause-restarted : goal.returns-clause-restarted
returns-clause-restarted g c =
    of_value c.open_archive.result _ _ _ _ (λ opened is stands acknowledges _ o w none one.
    told_so (g.D.Disk.pending c.args.disk) _ _ _ (λ told here uses holds.
    c.archive_calls_are_events.ensures.opened opened.0 opened.1 told.content o w none here uses
    holds (ap (λ (a : ArchiveState g.row.D.Denot). a.waiting) is)) one stands acknowledges)
    c.open_archive.ensures.at_rest c.open_archive.ensures.stands
    c.open_archive.ensures.acknowledged c.open_archive.ensures.acknowledged
