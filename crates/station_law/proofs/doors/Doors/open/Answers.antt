use Rattle.std.proofs.Common.{refl, sym, ◌∙◌}
use Rattle.station_law.proofs.AtDoors.{opened_at}
use Rattle.station_law.proofs.doors.Doors.open.Goals as goal

pub returns : goal.returns
returns c = record {
  opened = λ d are.
      rw c.put_at.ensures.after (opened_at c.args.self.now d c.args.c c.args.reading are
      c.in_ok-connection.connection (record { c = c.args.c; lines = c.new-2.result })
      (sym c.is_free.ensures ∙ c.if-not-is_free.false)
      (record { entered = c.args.reading; lives = c.in_ok-connection.ensures d.site }) refl
      c.new-2.ensures.items);
  refused = tt;
}
