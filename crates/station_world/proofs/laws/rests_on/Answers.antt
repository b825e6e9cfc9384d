use Rattle.station_world.proofs.laws.rests_on.Goals as goal

pub returns : goal.returns
returns c = record {
  grows = c.archive_grows.ensures.archive;
  complete_items = c.complete_delivery.ensures.items;
  complete_entries = c.complete_delivery.ensures.entries;
  complete_ends = c.complete_delivery.ensures.end_of_data;
  timely_shape = c.timely_delivery.ensures.shape;
  timely_ends = c.timely_delivery.ensures.end_of_data;
  told = c.continuity_stays.ensures.of_a_run;
  published = c.published_entries_grow.ensures.by_events;
  runs = c.lawful_radiation.ensures;
  notices = c.notices_are_told_in_turn.ensures;
  once = c.nothing_radiates_twice.ensures;
  offline_rounds = c.offline_rounds.ensures;
}
