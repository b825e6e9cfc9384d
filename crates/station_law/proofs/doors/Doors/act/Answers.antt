use Rattle.std.proofs.Common.{None, ap, subst}
use Rattle.std.proofs.lemmas.Result.{IfOk-weaker}
use Rattle.station_law.specs.Standing.{IsActed, DoorsSeen}
use Rattle.station_law.proofs.AtDoors.{goes, misses, no_opening, site_kept}
use Rattle.station_law.proofs.doors.Doors.act.Goals as goal

pub returns : goal.returns
returns c = record {
  acted = IfOk-weaker c.go_on.result _ _ (λ said rounds d are.
      subst (λ acted. IsActed said d acted c.go_on.new.self)
      (no_opening d c.args.reading c.args.line.now c.in_default.not-Open)
      (goes c.args.self.now c.put_at.new.self c.go_on.new.self d c.args.reading
      c.in-Some.turns _ c.in-Some-put_at.connection c.obey.new.connection said are
      c.in-Some.ensures c.in-Some-put_at.ensures.before c.put_at.ensures.after c.in_ok-obey.ensures
      rounds)) c.go_on.ensures.gone;
  refused = site_kept c.go_on.result c.args.self.now c.put_at.new.self c.go_on.new.self
      (ap (λ (d : DoorsSeen). d.site) c.put_at.ensures.after) c.go_on.ensures.refused;
}

pub returns-in_default-put_at : goal.returns-in_default-put_at
returns-in_default-put_at c = record {
  acted = λ d are.
      subst (λ acted. IsActed None d acted c.put_at.new.self)
      (no_opening d c.args.reading c.args.line.now c.in_default.not-Open)
      (misses c.args.self.now c.put_at.new.self d c.args.reading c.in-Some.turns _ c.put_at.result
      are c.in-Some.ensures c.in_default-put_at.not-Some c.put_at.ensures.before
      c.put_at.ensures.after);
  refused = tt;
}
