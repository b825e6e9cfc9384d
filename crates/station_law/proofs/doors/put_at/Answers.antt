use Rattle.std.proofs.Common.{sym, ◌∙◌}
use Rattle.station_law.proofs.AtDoors.{there_at}
use Rattle.station_law.proofs.doors.put_at.Goals as goal

pub returns-clause-before : goal.returns-clause-before
returns-clause-before c =
    c.replace.ensures.value ∙ sym c.index-doors-door.is
    ∙ there_at c.args.doors.now c.args.c c.index-doors-door.result c.if-door-doors.false
    c.index-doors-door.is
