use Rattle.session_events.proofs.Starts.{starts_are_there}
use Rattle.session_events.proofs.laws.each_start_is_the_worlds.Goals as goal

pub returns : goal.returns
returns c = starts_are_there (record {
  keeps = c.a_session_keeps_its_instance.ensures;
  begins = c.a_start_begins_a_delivery.ensures.begins;
})
