-- What a look gives, as the archive's definitions have it.
use Rattle.std.specs.Prelude.{map}
use Rattle.archive_terms.specs.Glimpse as terms
use Rattle.sle_numbers.specs.LockStatus.{number_of as lock_number}
use Rattle.sle_numbers.specs.ReturnProductionStatus.{number_of as production_number}
use Rattle.frame_select.specs.Item.{said_of}
use Rattle.frame_select.specs.declared.glimpse.Glimpse.{Glimpse}
use Rattle.frame_select.specs.declared.locks.Locks.{Locks}

abbrev pub locks_of : Locks → terms.Locks
locks_of l = record {
  frame_sync = lock_number l.frame_sync;
  symbol = lock_number l.symbol;
  subcarrier = lock_number l.subcarrier;
  carrier = lock_number l.carrier;
}

abbrev pub glimpse_of : Glimpse → terms.Glimpse
glimpse_of g = record {
  front = g.front;
  items = g.items;
  next = g.next;
  more = g.more;
  closed = g.closed;
  locks = locks_of g.locks;
  production = production_number g.production;
}

-- a glimpse as its items say it
abbrev pub as_said : terms.Glimpse → terms.Glimpse
as_said g = record g { items = map said_of g.items }
