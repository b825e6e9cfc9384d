use Rattle.line_events.proofs.laws.rests_on.Goals as goal

pub returns : goal.returns
returns c = record {
  grows = c.archive_grows.ensures.archive;
  rounds = c.offline_rounds.ensures;
  told = c.continuity_stays.ensures.of_an_offline_start;
  book_calls = c.calls_are_events.ensures;
  desk = c.a_desk_start_is_events.ensures;
}
