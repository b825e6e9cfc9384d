use Rattle.connection_laws.proofs.laws.rests_on.Goals as goal

pub returns : goal.returns
returns c = record {
  lost = c.nothing_is_lost.ensures;
  begins = c.a_door_begins_free.ensures;
  single = c.a_door_has_one_instance.ensures.instances;
  others = c.other_doors_leave_a_door.ensures.instance;
}
