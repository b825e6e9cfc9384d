use Rattle.std.proofs.Common.{refl}
use Rattle.run_command.proofs.command.run_site.Goals as goal

pub returns-in-Ok-clause-started : goal.returns-in-Ok-clause-started
returns-in-Ok-clause-started g c =
    let ran = rw c.in-Ok.is at c.run_station-ran.ensures.ran in (
      c.in-Ok.report,
      refl,
      c.tell_run-exit.ensures,
      ran,
      c.a_run_loses_nothing.ensures _ _ _ _ _ _ _ _ _ c.requires.site ran,
    )
