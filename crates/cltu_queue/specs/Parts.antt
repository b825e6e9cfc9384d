-- What holds of a queue's parts.
use Rattle.std.specs.Prelude.{◌≡◌, ℕ, ◌+◌, ◌≤◌, is_some, if◌then◌else◌, length}
use Rattle.cltu_queue.specs.declared.queue.Queue.TheInside.{Inside}
use Rattle.cltu_queue.specs.Machine.{Machine, octets_of, ends_with_production}

-- a queue as contracts see it
abbrev pub machine_of : Inside → Machine
machine_of a = record {
  room = a.room;
  longest = a.longest;
  run = a.run;
  started = a.started;
  blocked = a.blocked;
  next = a.next;
  waiting = a.waiting.items;
  in_air = a.in_air;
  rests_until = a.rests_until;
  processed = a.processed;
  ok = a.ok;
  received = a.received;
  taken = a.taken;
  radiated = a.radiated;
  notices = a.notices.items;
  production = a.production;
  status = a.status;
}

-- How many notices there are, and may be before the next take: two more at the end of what is in
-- the air, and one of production behind these, or behind one that isn't of production. A take makes
-- this at most 1,003.
abbrev pub notices_before_take : Machine → ℕ
notices_before_take m =
    length m.notices
    + (if is_some m.in_air then 3 else 0)
    + (if ends_with_production m.notices then 0 else 1)

-- the free octets are the room less those that wait; the ring of notices, which holds 1,024, is
-- never full
pub record PartsFit (m : Machine) (free capacity : ℕ) : Type 0 where
  pub free_and_waiting : free + octets_of m.waiting ≡ m.room
  pub notices : notices_before_take m ≤ 1003
  pub ring : capacity ≡ 1024
