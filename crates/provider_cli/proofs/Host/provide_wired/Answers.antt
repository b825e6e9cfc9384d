use Rattle.provider_cli.proofs.Host.provide_wired.Goals as goal

-- a run is over what was made for it
pub returns : goal.returns
returns g c = record {
  disk = c.provide_over-exit.ensures.disk;
  draw = c.provide_over-exit.ensures.draw;
  around = c.provide_over-exit.ensures.around;
  has = c.provide_over-exit.ensures.has;
  of_path = c.provide_over-exit.ensures.of_path;
  still_of_path = c.provide_over-exit.ensures.still_of_path;
  provided = c.provide_over-exit.ensures.provided;
  started = c.provide_over-exit.ensures.started;
  not_started = c.provide_over-exit.ensures.not_started;
  untouched = λ other. absurd (other c.requires.runs);
}
