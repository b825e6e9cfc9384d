use Rattle.std.proofs.Common.{subst}
use Rattle.std.proofs.lemmas.Result.{on_ok_weaker}
use Rattle.station_config.specs.declared.site.Site.{Site}
use Rattle.station_law.specs.Doors.{anew}
use Rattle.station_law.specs.Standing.{AreDoors}
use Rattle.station_law.proofs.world.follow.Goals as goal

pub returns-in-Crashed-clause-followed : goal.returns-in-Crashed-clause-followed
returns-in-Crashed-clause-followed c = rw c.in-Crashed.is (on_ok_weaker c.renew.result
    (λ renewed d are. subst (λ (site : Site). AreDoors c.renew.new.doors
    (anew site c.args.recorder.now.state.published)) are.site renewed)
    c.renew.ensures.renewed)
