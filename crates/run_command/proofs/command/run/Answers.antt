use Rattle.run_command.proofs.Passes.{if_some_map}
use Rattle.run_command.proofs.command.run.Goals as goal

pub returns-in-Ok-clause-started : goal.returns-in-Ok-clause-started
returns-in-Ok-clause-started g c = if_some_map _ _ c.run_site.result.2
    (λ pass told. (
      c.in-Ok.site,
      told.0,
      told.1,
      c.in-Ok.ensures.valid,
      c.in-Ok.ensures.exact.0,
      told.2,
      told.3,
      told.4,
    ))
    c.run_site.ensures.started
