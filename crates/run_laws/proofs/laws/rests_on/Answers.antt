use Rattle.run_laws.proofs.laws.rests_on.Goals as goal

pub returns : goal.returns
returns c = record {
  lost = c.nothing_is_lost.ensures;
  begins = c.a_door_begins_free.ensures;
  single = c.a_door_has_one_instance.ensures.instances;
  others = c.other_doors_leave_a_door.ensures.instance;
  one = c.a_site_has_one_forward_service.ensures;
  grows = c.archive_grows.ensures.archive;
  weighs = c.made_up_weighs_as_much.ensures;
}
