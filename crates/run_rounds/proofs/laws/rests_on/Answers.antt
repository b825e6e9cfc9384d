use Rattle.run_rounds.proofs.laws.rests_on.Goals as goal

pub returns : goal.returns
returns c = record {
  run = c.rests_on.ensures;
  own = c.progress_is_of_its_door.ensures;
  rounds = c.what_a_round_makes_may_come.ensures;
  there = c.each_start_is_the_worlds.ensures;
  beside = c.starts_stand_beside.ensures;
  sees = c.what_a_session_sees_is_published.ensures;
  hands = c.each_start_hands_over.ensures;
  only = c.only_a_started_service_sends.ensures;
}
