use Rattle.session_laws.proofs.Handing.{starts_hand_over}
use Rattle.session_laws.proofs.laws.each_start_hands_over.Goals as goal

pub returns : goal.returns
returns c = starts_hand_over (record {
  keeps = c.a_session_keeps_its_instance.ensures;
  begins = c.a_start_begins_a_delivery.ensures.begins;
  stands = c.a_start_begins_a_delivery.ensures.stands;
  delivers = c.what_a_start_hands_over_is_delivered.ensures;
  complete = c.a_complete_start_hands_over_what_it_picks.ensures;
  timely = c.a_timely_start_tells_what_it_discards.ensures;
  owes = c.what_a_session_owes_comes.ensures.owed;
  ready = c.what_a_session_owes_comes.ensures.ready;
  due = c.a_due_buffer_is_offered.ensures;
  front_is = c.a_wanted_look_is_one_at_its_front.ensures.front;
})
