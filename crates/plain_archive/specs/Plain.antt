-- The plain program's values in the terms of deliveries.
use Rattle.std.specs.Prelude.{Option, Some, None}
use Rattle.archive_terms.specs.Delivery.{backlog, end_of_data, Item}
use Rattle.archive_terms.specs.Delivery as terms
use Rattle.archive_terms.specs.Rounds as rounds
use Rattle.plain_archive.specs.declared.round.Answer.{Answer}
use Rattle.plain_archive.specs.declared.round.Answer.TheVariants.{Whole, Stalled, Failed}
use Rattle.plain_archive.specs.declared.round.Link.{Link}
use Rattle.plain_archive.specs.declared.round.Link.TheVariants.{Blocked, Waiting, Free, Broken}
use Rattle.plain_archive.specs.declared.round.Head.{Head}
use Rattle.plain_archive.specs.declared.round.Head.TheVariants.{Backlog, EndOfData}
use Rattle.plain_archive.specs.declared.round.Delivery.{Delivery}

abbrev pub answer_of : Answer → rounds.Answer
answer_of Whole = rounds.whole
answer_of Stalled = rounds.stall
answer_of Failed = rounds.fail

abbrev pub link_of : Link → rounds.Link
link_of Blocked = rounds.blocked
link_of Waiting = rounds.waiting
link_of (Free answer) = rounds.free (answer_of answer)
link_of Broken = rounds.broken

abbrev pub item_of : Option Head → Option Item
item_of None = None
item_of (Some Backlog) = Some backlog
item_of (Some EndOfData) = Some end_of_data

abbrev pub delivery_of : Delivery → terms.Delivery
delivery_of d = record {
  settled = d.settled;
  held = d.held;
  head = item_of d.head;
  owed = d.owed;
  fixed = d.fixed;
  since = d.since;
  ended = d.ended;
}
