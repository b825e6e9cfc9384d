use Rattle.run_events.proofs.laws.rests_on.Goals as goal

pub returns : goal.returns
returns c = record {
  grows = c.archive_grows.ensures.archive;
  follows = c.follows_by_last_times.ensures.archive;
  weighs = c.made_up_weighs_as_much.ensures;
  book_calls = c.calls_are_events.ensures;
  headline = c.at_each_moment.ensures.headline;
  stays = c.at_each_moment.ensures.stays;
}
