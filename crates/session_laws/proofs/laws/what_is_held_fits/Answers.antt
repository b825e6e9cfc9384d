use Rattle.session_laws.proofs.Fitting.{held_fits}
use Rattle.session_laws.proofs.laws.what_is_held_fits.Goals as goal

pub returns : goal.returns
returns c = held_fits (record {
  fit = c.buffers_fit.ensures;
  stored = c.what_is_stored_is_in_range.ensures;
  same = c.what_is_said_is_told.ensures;
  within = c.buffer_takes_what_fits.ensures.within;
  opens = c.buffer_takes_what_fits.ensures.open;
  greatest = c.buffer_takes_what_fits.ensures.greatest;
})
