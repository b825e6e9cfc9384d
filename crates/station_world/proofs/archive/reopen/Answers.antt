use Rattle.std.proofs.Common.{ap}
use Rattle.frame_archive.specs.State.{ArchiveState}
use Rattle.station_world.specs.Archives.{StandsForOne}
use Rattle.station_world.proofs.Results.{both_err, of_value}
use Rattle.station_world.proofs.Archives.{throughout}
use Rattle.station_world.proofs.archive.reopen.Goals as goal

pub returns-clause-reopened : goal.returns-clause-reopened
returns-clause-reopened g c =
    of_value c.reopen.result _ _ _ _ (λ landing adds landed whole is.
    c.archive_calls_are_events.ensures.reopened c.args.archive.now c.reopen.new.self
    landing.landed adds landed whole (ap (λ (a : ArchiveState g.row.D.Denot). a.waiting) is))
    c.reopen.ensures.acknowledged c.reopen.ensures.landed c.reopen.ensures.whole
    c.reopen.ensures.reopened

pub returns-clause-refused : goal.returns-clause-refused
returns-clause-refused g c =
    both_err c.reopen.result (λ keeps is. c.archive_calls_are_events.ensures.refused
    c.args.archive.now c.reopen.new.self keeps is) c.reopen.ensures.still c.reopen.ensures.refused

pub returns-clause-any_moment : goal.returns-clause-any_moment
returns-clause-any_moment g c f holds =
    throughout g.D.Disk.moment g.D.Disk.images_since c.args.archive.now.disk c.reopen.new.self.disk
    _ (StandsForOne f)
    (λ image is. c.archive_calls_are_events.ensures.images c.args.archive.now f image holds is)
    c.reopen.ensures.any_moment
