use Rattle.std.proofs.Common.{rules}
use Rattle.station_desk.specs.Cursor.{current}
use Rattle.station_desk.proofs.Saying.{trees_said, handed_said, current_readable}
use Rattle.station_desk.proofs.buffers.Buffers.message.Goals as goal

pub message-requires-clause-handed : goal.message-requires-clause-handed
message-requires-clause-handed g c = rw (c.items.ensures.said, ← c.self.view_is)
    (handed_said _ (current_readable c.self.invariant (search rules)).handed)

pub returns : goal.returns
returns g c = rw (c.items.ensures.said, trees_said (current c.args.self.now)) at c.message.ensures
